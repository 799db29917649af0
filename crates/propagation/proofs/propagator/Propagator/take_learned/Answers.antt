use Rattle.std.proofs.Common.{◌≡◌, ◌∙◌, sym, ap, subst, ◌+◌, ◌≤◌, [], length, arith}
use Rattle.std.specs.Prelude.{All}
use Rattle.std.proofs.lemmas.Bool.{both_ways}
use Rattle.clauses.specs.Problem.{IsBelow}
use Rattle.propagation.specs.declared.state.State.TheVariants as state
use Rattle.propagation.specs.inside.Levels.{HasState}
use Rattle.propagation.specs.inside.Trails.{Trailing}
use Rattle.propagation.proofs.StateLaws.{forgotten, forgotten-dead}
use Rattle.propagation.proofs.propagator.Propagator.take_learned.Goals as goal

pub invariant_of-self : goal.invariant_of-self
invariant_of-self c =
    let none : c.replace-learned.new.dest ≡ [] = c.replace-learned.ensures.after ∙ c.new-none.ensures in
    let assumed : c.clear.new.self.items ≡ [] = c.clear.ensures.items in
    let marks : c.clear-2.new.self.items ≡ [] = c.clear-2.ensures.items in
    let dead : c.self.inside.state ≡ state.Dead = c.is_dead.ensures.0 c.if-is_dead.true in
    let standing : HasState c.self.inside.problem [] [] c.self.inside.trail c.self.inside.watches c.clear-3.new.self [] c.self.inside.base c.self.inside.state =
    subst (HasState c.self.inside.problem [] [] c.self.inside.trail c.self.inside.watches c.clear-3.new.self [] c.self.inside.base) (sym dead)
    (forgotten-dead c.self.inside.problem c.self.inside.learned c.self.inside.assumed.items c.self.inside.trail c.self.inside.watches c.self.inside.learned_watches c.self.inside.marks.items c.self.inside.base (subst (HasState c.self.inside.problem c.self.inside.learned c.self.inside.assumed.items c.self.inside.trail c.self.inside.watches c.self.inside.learned_watches c.self.inside.marks.items c.self.inside.base) dead c.self.invariant.standing) c.self.inside.trail c.clear-3.new.self) in
    record {
      problem = c.self.invariant.problem;
      assumed_below = subst (All (IsBelow c.self.inside.problem.variables)) (sym assumed) (λ k d l. absurd (omega arith));
      learned_below = subst (All (All (IsBelow c.self.inside.problem.variables))) (sym none) (λ k d l. absurd (omega arith));
      in_row = c.clear-4.ensures ∙ sym none;
      few = (let size = ap length assumed in omega arith);
      reserved = subst (λ n. c.self.inside.problem.variables + 4096 ≤ n) (sym c.clear.ensures.capacity) c.self.invariant.reserved;
      marks_reserved = subst (λ n. c.self.inside.problem.variables + 4096 ≤ n) (sym c.clear-2.ensures.capacity) c.self.invariant.marks_reserved;
      standing = rw (none, assumed, marks) standing;
    }

pub invariant_of-self-2 : goal.invariant_of-self-2
invariant_of-self-2 c =
    let none : c.replace-learned.new.dest ≡ [] = c.replace-learned.ensures.after ∙ c.new-none.ensures in
    let assumed : c.clear.new.self.items ≡ [] = c.clear.ensures.items in
    let marks : c.clear-2.new.self.items ≡ [] = c.clear-2.ensures.items in
    let standing : HasState c.self.inside.problem [] [] c.cut.new.self c.self.inside.watches c.clear-3.new.self [] c.self.inside.base state.Rests =
    subst (λ (t : Trailing). HasState c.self.inside.problem [] [] t c.self.inside.watches c.clear-3.new.self [] c.self.inside.base state.Rests) (sym c.cut.ensures)
    (forgotten c.self.inside.problem c.self.inside.learned c.self.inside.assumed.items c.self.inside.trail c.self.inside.watches c.self.inside.learned_watches c.self.inside.marks.items c.self.inside.base c.self.inside.state c.self.invariant.standing (λ e. both_ways c.is_dead.result c.if-is_dead.false (c.is_dead.ensures.1 e)) c.self.invariant.problem.clauses_below c.clear-3.new.self c.clear-3.ensures.variables c.clear-3.ensures.watched c.clear-3.ensures.plain) in
    record {
      problem = c.self.invariant.problem;
      assumed_below = subst (All (IsBelow c.self.inside.problem.variables)) (sym assumed) (λ k d l. absurd (omega arith));
      learned_below = subst (All (All (IsBelow c.self.inside.problem.variables))) (sym none) (λ k d l. absurd (omega arith));
      in_row = c.clear-4.ensures ∙ sym none;
      few = (let size = ap length assumed in omega arith);
      reserved = subst (λ n. c.self.inside.problem.variables + 4096 ≤ n) (sym c.clear.ensures.capacity) c.self.invariant.reserved;
      marks_reserved = subst (λ n. c.self.inside.problem.variables + 4096 ≤ n) (sym c.clear-2.ensures.capacity) c.self.invariant.marks_reserved;
      standing = rw (none, assumed, marks) standing;
    }
