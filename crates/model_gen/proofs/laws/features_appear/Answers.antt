use Rattle.model_gen.proofs.Appearing.{appearing-below, number-appears}
use Rattle.model_gen.proofs.laws.features_appear.Goals as goal

pub returns-clause-only : goal.returns-clause-only
returns-clause-only c = appearing-below

pub returns-clause-number : goal.returns-clause-number
returns-clause-number c = number-appears
