use Rattle.std.proofs.Common.{◌∙◌, ap}
use Rattle.clauses.specs.Closure.{clash}
use Rattle.solver.specs.inside.Trials.{with_tried}
use Rattle.solver.specs.inside.Searching.{Searching}
use Rattle.solver.proofs.SearchLaws.{shown-clash}
use Rattle.solver.proofs.search.Search.clashes.Goals as goal

pub returns : goal.returns
returns c = c.clashes.ensures ∙ ap (λ (s : Searching). clash (with_tried s.trial s.trial.tried)) c.self.view_is ∙ shown-clash c.args.self.now c.requires
