use Rattle.std.proofs.Common.{◌∙◌, sym, subst, ◌++◌}
use Rattle.std.specs.Prelude.{◌<◌}
use Rattle.pref_sets.specs.Preferred.{IsWithin}
use Rattle.clauses.specs.Problem.{ClauseProblem}
use Rattle.solver.proofs.TrialLaws.{one-inside}
use Rattle.solver.proofs.trial.Trial.try_number.Goals as goal

pub returns-clause-within : goal.returns-clause-within
returns-clause-within c =
    let below : c.args.number < c.args.self.now.problem.variables =
    subst (λ (p : ClauseProblem). c.args.number < p.variables) (c.behind-self.view_is ∙ c.problem.ensures.problem) c.if-number-problem.false in
    subst (λ variables. IsWithin c.is_valued_too.new.self.tried (c.args.self.now.tried ++ variables)) (sym (one-inside c.args.self.now.problem c.args.number below)) c.is_valued_too.ensures.within
