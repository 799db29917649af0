use Rattle.std.proofs.Common.{List, map, subst, take, drop}
use Rattle.std.proofs.lemmas.List.{take_rest}
use Rattle.pref_sets.specs.Preferred.{IsWithin}
use Rattle.clauses.specs.declared.literal.Lit.{Lit}
use Rattle.solver.specs.inside.Trials.{Trying, variables_in}
use Rattle.solver.proofs.TrialLaws.{kept-within}
use Rattle.solver.proofs.trial.Trial.common_with.Goals as goal

pub returns-clause-within : goal.returns-clause-within
returns-clause-within c =
    subst (λ (s : Trying). IsWithin (take c.common.result s.tried) (variables_in s.problem c.args.set.now)) c.self.view_is
    (kept-within c.self.inside.problem.now c.self.inside.first c.self.inside.propagator c.self.inside.fixed c.common.result c.self.invariant c.args.set.now
    (subst (λ assumed. IsWithin (take c.common.result (map (λ (l : Lit). l.var) (drop c.self.inside.fixed assumed))) c.args.set.now) c.assumed-assumed.ensures
    (subst (λ (behind : List Lit). IsWithin (take c.common.result (map (λ (l : Lit). l.var) behind)) c.args.set.now) (take_rest c.assumed-assumed.result.now c.self.inside.fixed) c.common.ensures.within)))
