use Rattle.model_gen.proofs.WholeLaws.{whole-product}
use Rattle.model_gen.proofs.laws.all_features_are_a_product.Goals as goal

pub returns : goal.returns
returns c = whole-product
