-- When a formula is true in a set of features (UVL).
use Rattle.std.specs.Prelude.{ℕ, Bool, true, false, not, ◌||◌, IsTrue, List, slice_get, unwrap_or}
use Rattle.std.specs.List.{list_all, list_any}
use Rattle.feature_tree.specs.declared.formula.Formula.{Formula}
use Rattle.feature_tree.specs.declared.formula.Formula.TheOpen as node
use Rattle.feature_tree.specs.declared.formula.Formula.TheOpen.{Formula-F}
use Rattle.feature_tree.specs.declared.formula.Formula.TheFolds.{fold-Formula}

-- A set of features is a list with one Boolean for each feature: whether the feature of that number is in it.
-- Truth looks only at the formula's names, so it may be asked of a longer list too, as the values of variables of which
-- the first stand for the features.
abbrev pub is_in : List Bool → ℕ → Bool
is_in set feature = unwrap_or (slice_get set feature) false

-- both, or neither
abbrev pub agree : Bool → Bool → Bool
agree true right = right
agree false right = not right

-- the truth of one node, whose parts are given by their truth
abbrev pub truth_of_node : List Bool → Formula-F Bool → Bool
truth_of_node set (node.Name feature) = is_in set feature
truth_of_node set (node.Not part) = not part
truth_of_node set (node.All parts) = list_all (λ part. part) parts
truth_of_node set (node.Any parts) = list_any (λ part. part) parts
truth_of_node set (node.Implies left right) = not left || right
truth_of_node set (node.Same left right) = agree left right

-- the truth of a formula, from its names upwards
abbrev pub truth : List Bool → Formula → Bool
truth set = fold-Formula Bool (truth_of_node set)

-- the formula is true in the set
abbrev pub Holds : List Bool → Formula → Type 0
Holds set formula = IsTrue (truth set formula)
