use Rattle.std.proofs.Common.{◌≡◌, ◌∙◌, sym, ap, subst, [], length, arith}
use Rattle.std.specs.Prelude.{All}
use Rattle.clauses.specs.Problem.{ClauseProblem, IsBelow, IsProblem}
use Rattle.propagation.proofs.propagator.Propagator.new.Goals as goal

pub invariant_of-result : goal.invariant_of-result
invariant_of-result c =
    let problem : ClauseProblem = c.in_ok-problem.problem in
    let variables : c.problem.inside.variables ≡ problem.variables = ap (λ (p : ClauseProblem). p.variables) (c.problem.view_is ∙ sym c.in_ok-problem.ensures) in
    let assumed : c.in_ok-assumed.assumed.items ≡ [] = c.in_ok-assumed.ensures.items in
    let marks : c.in_ok-marks.marks.items ≡ [] = c.in_ok-marks.ensures.items in
    let learned : c.new-learned.result ≡ [] = c.new-learned.ensures in
    record {
      problem = subst IsProblem (c.problem.view_is ∙ sym c.in_ok-problem.ensures) c.problem.invariant;
      assumed_below = subst (All (IsBelow problem.variables)) (sym assumed) (λ k d l. absurd (omega arith));
      learned_below = subst (All (All (IsBelow problem.variables))) (sym learned) (λ k d l. absurd (omega arith));
      in_row = c.new-flat.ensures ∙ sym learned;
      few = (let size = ap length assumed in omega arith);
      reserved = (let room = c.in_ok-assumed.ensures.exact in omega arith);
      marks_reserved = (let room = c.in_ok-marks.ensures.exact in omega arith);
      standing = rw (assumed, marks, learned, c.len-base.ensures.value) c.in_ok-state.ensures;
    }
