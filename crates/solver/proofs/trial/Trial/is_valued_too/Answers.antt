use Rattle.std.proofs.Common.{◌≡◌, ◌∙◌, sym, ap, subst, true, ◌<◌, [], ◌∷◌, ◌++◌}
use Rattle.std.specs.Prelude.{Contains}
use Rattle.pref_sets.specs.Preferred.{IsWithin}
use Rattle.clauses.specs.declared.literal.Lit.{Lit}
use Rattle.clauses.specs.Clause.{literal_with, unit_of}
use Rattle.clauses.specs.Closure.{closure, clash}
use Rattle.clauses.specs.Problem.{ClauseProblem, IsBelow}
use Rattle.propagation.specs.Propagation.{propagated}
use Rattle.propagation.specs.Room.{IsMadeTrue}
use Rattle.solver.specs.inside.Trials.{Trying, SameButTried, with_tried, tried_of}
use Rattle.solver.proofs.TrialLaws.{shown_by, has-room, made-trial, made-same, made-within, made-more, shown-propagated, with_tried-push}
use Rattle.solver.proofs.trial.Trial.is_valued_too.Goals as goal

pub make_true-requires : goal.make_true-requires
make_true-requires c =
    let problem = c.self.inside.problem.now in
    let old = c.self.inside.propagator in
    let below : c.args.variable < problem.variables = subst (λ (s : Trying). c.args.variable < s.problem.variables) (sym c.self.view_is) c.requires.variable in
    record {
      no_clash = ap clash (shown-propagated problem c.self.inside.first old c.self.inside.fixed c.self.invariant) ∙ ap (λ (s : Trying). clash (with_tried s s.tried)) c.self.view_is ∙ c.requires.no_clash;
      variable = subst (λ (l : Lit). IsBelow old.problem.variables l) (sym c.literal_with.ensures) (subst (λ (p : ClauseProblem). c.args.variable < p.variables) (sym c.self.invariant.same_problem) below);
      room = has-room problem c.self.inside.first old c.self.inside.fixed c.self.invariant;
    }

pub invariant_of-self : goal.invariant_of-self
invariant_of-self c =
    let problem = c.self.inside.problem.now in
    let below : c.args.variable < problem.variables = subst (λ (s : Trying). c.args.variable < s.problem.variables) (sym c.self.view_is) c.requires.variable in
    made-trial problem c.self.inside.first c.self.inside.fixed c.self.inside.propagator c.make_true.new.self c.self.invariant c.args.variable below
    (subst (λ (l : Lit). IsMadeTrue c.self.inside.propagator l c.make_true.new.self) c.literal_with.ensures c.make_true.ensures.assumed)

pub returns : goal.returns
returns c =
    let problem = c.self.inside.problem.now in
    let fixed = c.self.inside.fixed in
    let first = c.self.inside.first in
    let old = c.self.inside.propagator in
    let new = c.make_true.new.self in
    let v = c.args.variable in
    let below : v < problem.variables = subst (λ (s : Trying). v < s.problem.variables) (sym c.self.view_is) c.requires.variable in
    let made = subst (λ (l : Lit). IsMadeTrue old l new) c.literal_with.ensures c.make_true.ensures.assumed in
    let trial = made-trial problem first fixed old new c.self.invariant v below made in
    let pushed = with_tried-push (shown_by problem first old fixed) (tried_of old fixed) v ∙ ap (λ clauses. clauses ++ unit_of (literal_with first v) ∷ []) (sym (shown-propagated problem first old fixed c.self.invariant)) in
    record {
      same = subst (λ (s : Trying). SameButTried s (shown_by problem first new fixed)) c.self.view_is (made-same problem first fixed old new c.self.invariant v below made);
      within = subst (λ (s : Trying). IsWithin (tried_of new fixed) (s.tried ++ v ∷ [])) c.self.view_is (made-within problem first fixed old new c.self.invariant v below made);
      more = subst (λ (s : Trying). IsWithin s.tried (tried_of new fixed)) c.self.view_is (made-more problem first fixed old new c.self.invariant v below made);
      valued = λ t. subst (λ (s : Trying). Contains (closure (with_tried (shown_by problem first new fixed) (tried_of new fixed))) (literal_with s.first v)) c.self.view_is
          (subst (λ clauses. Contains (closure clauses) (literal_with first v)) (shown-propagated problem first new fixed trial) (subst (λ (l : Lit). Contains (closure (propagated new)) l) c.literal_with.ensures (c.make_true.ensures.closed t)));
      no_clash = λ t. ap clash (sym (shown-propagated problem first new fixed trial)) ∙ c.make_true.ensures.no_clash t;
      clash = λ f. subst (λ (s : Trying). clash (with_tried s (s.tried ++ v ∷ [])) ≡ true) c.self.view_is (ap clash pushed ∙ ap (λ (l : Lit). clash (propagated old ++ unit_of l ∷ [])) (sym c.literal_with.ensures) ∙ c.make_true.ensures.clash f);
    }
