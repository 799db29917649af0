use Rattle.feature_tree.proofs.FormulaLaws.{one_answer}
use Rattle.feature_tree.proofs.laws.one_answer.Goals as goal

pub returns : goal.returns
returns c = one_answer
