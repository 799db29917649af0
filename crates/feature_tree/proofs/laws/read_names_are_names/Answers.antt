use Rattle.feature_tree.proofs.ReadNameLaws.{read_names_are_names}
use Rattle.feature_tree.proofs.laws.read_names_are_names.Goals as goal

pub returns : goal.returns
returns c = read_names_are_names
