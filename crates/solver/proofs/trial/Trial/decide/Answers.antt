use Rattle.std.proofs.Common.{sym, subst, [], ◌∷◌, ◌++◌}
use Rattle.clauses.specs.declared.literal.Lit.{Lit}
use Rattle.std.specs.Prelude.{◌<◌, Contains}
use Rattle.solver.specs.inside.Trials.{Trying, IsTrial}
use Rattle.solver.proofs.TrialLaws.{few-assumed, trial-push}
use Rattle.solver.proofs.trial.Trial.decide.Goals as goal

pub assume-requires-clause-few : goal.assume-requires-clause-few
assume-requires-clause-few c =
    few-assumed c.self.inside.problem.now c.self.inside.first c.self.inside.propagator c.self.inside.fixed c.self.invariant c.args.variable
    (subst (λ (s : Trying). c.args.variable < s.problem.variables) (sym c.self.view_is) c.requires.variable)
    (subst (λ (s : Trying). ¬ Contains s.tried c.args.variable) (sym c.self.view_is) c.requires.new)

pub invariant_of-self : goal.invariant_of-self
invariant_of-self c =
    subst (λ at. IsTrial c.self.inside.problem.now c.self.inside.first at c.self.inside.fixed) (sym c.assume.ensures.assumed)
    (subst (λ (l : Lit). IsTrial c.self.inside.problem.now c.self.inside.first (record c.self.inside.propagator { assumed = c.self.inside.propagator.assumed ++ l ∷ [] }) c.self.inside.fixed) (sym c.literal_with.ensures)
    (trial-push c.self.inside.problem.now c.self.inside.first c.self.inside.propagator c.self.inside.fixed c.self.invariant c.args.variable
    (subst (λ (s : Trying). c.args.variable < s.problem.variables) (sym c.self.view_is) c.requires.variable)
    (subst (λ (s : Trying). ¬ Contains s.tried c.args.variable) (sym c.self.view_is) c.requires.new)))
