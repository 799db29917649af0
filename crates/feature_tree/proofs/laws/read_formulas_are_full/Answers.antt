use Rattle.feature_tree.proofs.ReadFormulaLaws.{read_formulas_are_full}
use Rattle.feature_tree.proofs.laws.read_formulas_are_full.Goals as goal

pub returns : goal.returns
returns c = read_formulas_are_full
