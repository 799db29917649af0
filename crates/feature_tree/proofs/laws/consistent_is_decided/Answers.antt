use Rattle.feature_tree.proofs.Decided.{consistent_decided}
use Rattle.feature_tree.proofs.laws.consistent_is_decided.Goals as goal

pub returns : goal.returns
returns c = consistent_decided
