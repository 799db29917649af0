use Rattle.hs_tree.proofs.AsksNew.{tree-new}
use Rattle.hs_tree.proofs.laws.tree_asks_new_sets.Goals as goal

pub returns : goal.returns
returns c n most first asked table e = tree-new n most first asked table e
