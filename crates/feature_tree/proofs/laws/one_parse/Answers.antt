use Rattle.feature_tree.proofs.FormulaLaws.{one_parse}
use Rattle.feature_tree.proofs.laws.one_parse.Goals as goal

pub returns : goal.returns
returns c = one_parse
