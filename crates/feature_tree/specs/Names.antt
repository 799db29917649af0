-- The names in a formula, which are numbers of features.
use Rattle.std.specs.Prelude.{◌≡◌, ℕ, Bool, List, [], ◌∷◌, ◌++◌, ◌<◌, All}
use Rattle.std.specs.List.{flat_map}
use Rattle.feature_tree.specs.declared.formula.Formula.{Formula}
use Rattle.feature_tree.specs.declared.formula.Formula.TheOpen as node
use Rattle.feature_tree.specs.declared.formula.Formula.TheOpen.{Formula-F}
use Rattle.feature_tree.specs.declared.formula.Formula.TheFolds.{fold-Formula}
use Rattle.feature_tree.specs.Truth.{is_in, truth}

-- the names of one node, whose parts are given by their names
abbrev pub names_of_node : Formula-F (List ℕ) → List ℕ
names_of_node (node.Name feature) = feature ∷ []
names_of_node (node.Not part) = part
names_of_node (node.All parts) = flat_map (λ part. part) parts
names_of_node (node.Any parts) = flat_map (λ part. part) parts
names_of_node (node.Implies left right) = left ++ right
names_of_node (node.Same left right) = left ++ right

-- the names of a formula, from left to right, each as often as it stands there
abbrev pub names : Formula → List ℕ
names = fold-Formula (List ℕ) names_of_node

-- each name is below the count: with the count of a model's features, each names a feature
abbrev pub NamesBelow : ℕ → Formula → Type 0
NamesBelow count formula = All (λ name. name < count) (names formula)

-- A formula has the same truth in two sets that agree on its names.
abbrev pub TruthRestsOnNames : Type 0
TruthRestsOnNames = (set other : List Bool) (formula : Formula) → All (λ name. is_in set name ≡ is_in other name) (names formula) → truth set formula ≡ truth other formula
