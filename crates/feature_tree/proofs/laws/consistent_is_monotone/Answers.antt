use Rattle.feature_tree.proofs.Decided.{consistent_monotone}
use Rattle.feature_tree.proofs.laws.consistent_is_monotone.Goals as goal

pub returns : goal.returns
returns c = consistent_monotone
