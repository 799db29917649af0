use Rattle.feature_tree.proofs.Decided.{product_decided}
use Rattle.feature_tree.proofs.laws.product_is_decided.Goals as goal

pub returns : goal.returns
returns c = product_decided
