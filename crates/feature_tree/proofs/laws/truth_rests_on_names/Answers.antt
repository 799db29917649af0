use Rattle.feature_tree.proofs.Formulas.{truth_of_names}
use Rattle.feature_tree.proofs.laws.truth_rests_on_names.Goals as goal

pub returns : goal.returns
returns c = truth_of_names
