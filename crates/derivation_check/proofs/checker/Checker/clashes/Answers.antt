use Rattle.std.proofs.Common.{◌∙◌, ap}
use Rattle.clauses.specs.Closure.{clash}
use Rattle.derivation_check.specs.Lines.{Lines, given}
use Rattle.derivation_check.proofs.CheckerLaws.{checked-clash}
use Rattle.derivation_check.proofs.checker.Checker.clashes.Goals as goal

pub returns : goal.returns
returns c =
    c.clashes.ensures
    ∙ checked-clash c.self.inside.problem.now c.self.inside.key c.self.inside.roots c.self.inside.propagator c.self.invariant
    ∙ ap (λ (so_far : Lines). clash (given so_far)) c.self.view_is
