-- What is true of every feature model that the program holds (own to this project).
use Rattle.std.specs.Prelude.{◌≡◌, ◌≢◌, ⊤, ℕ, ◌<◌, ◌≤◌, ◌==◌, List, [], length, map, count_by, All, AllPairs, Option, Some, None, slice_get}
use Rattle.std.specs.List.{flat_map}
use Rattle.std.specs.Option.{option_and_then, option_map_or}
use Rattle.feature_tree.specs.declared.group.Group.{Group}
use Rattle.feature_tree.specs.declared.group.GroupKind.{GroupKind}
use Rattle.feature_tree.specs.declared.group.GroupKind.TheVariants.{Mandatory, Optional, Or, Alternative, Range}
use Rattle.feature_tree.specs.declared.feature.Feature.{Feature}
use Rattle.feature_tree.specs.declared.formula.Formula.{Formula}
use Rattle.feature_tree.specs.Names.{NamesBelow}

-- the number of the parent of the feature with this number, if it has one
abbrev pub parent_of : List Feature → ℕ → Option ℕ
parent_of features i = option_and_then (λ feature. feature.parent) (slice_get features i)

-- the groups of the feature with this number
abbrev pub groups_of : List Feature → ℕ → List Group
groups_of features i = option_map_or (λ feature. feature.groups) (slice_get features i) []

-- the children in all groups of the feature with this number, in order
abbrev pub children_of : List Feature → ℕ → List ℕ
children_of features i = flat_map (λ group. group.children) (groups_of features i)

-- the feature numbered i has such a parent: none if it is the first, and else one before it
abbrev pub HasParent : ℕ → Option ℕ → Type 0
HasParent i None = i ≡ 0
HasParent i (Some parent) = parent < i

-- `low` and `high` are 0 and None unless the kind is Range
abbrev pub HasBounds : GroupKind → ℕ → Option ℕ → Type 0
HasBounds Range low high = ⊤
HasBounds Mandatory low high = (low ≡ 0) × (high ≡ None)
HasBounds Optional low high = (low ≡ 0) × (high ≡ None)
HasBounds Or low high = (low ≡ 0) × (high ≡ None)
HasBounds Alternative low high = (low ≡ 0) × (high ≡ None)

-- P holds of each number and its feature
abbrev pub EachFeature : List Feature → (ℕ → Feature → Type 0) → Type 0
EachFeature features P = (i : ℕ) (feature : Feature) → slice_get features i ≡ Some feature → P i feature

-- a group of the feature numbered i
pub record IsGroupOf (features : List Feature) (i : ℕ) (group : Group) : Type 0 where
  -- it is not empty
  pub filled : 0 < length group.children
  -- its children are features whose parent is this one
  pub children : All (λ child. parent_of features child ≡ Some i) group.children
  -- it has bounds as its kind wants
  pub bounds : HasBounds group.kind group.low group.high

-- the names of the features, in their order
abbrev pub feature_names : List Feature → List (List ℕ)
feature_names features = map (λ feature. feature.name) features

-- no two features have the same name
abbrev pub NamesDiffer : List Feature → Type 0
NamesDiffer features = AllPairs (λ name other. name ≢ other) (feature_names features)

-- the features of a model: a tree of groups
pub record IsTree (features : List Feature) : Type 0 where
  -- 1 to 65,535 features; the number of each is its place in the list
  pub some : 0 < length features
  pub few : length features ≤ 65535
  -- feature 0 alone has no parent, and a parent's number is lower than its child's
  pub parents : EachFeature features (λ i feature. HasParent i feature.parent)
  -- no group is empty, and a feature's groups hold its own children alone
  pub groups : EachFeature features (λ i feature. All (IsGroupOf features i) feature.groups)
  -- each other feature stands in exactly one group of its parent, once
  pub placed : (child parent : ℕ) → parent_of features child ≡ Some parent → count_by (λ other. other == child) (children_of features parent) ≡ 1
  -- names differ
  pub names : NamesDiffer features

pub record IsWellFormed (features : List Feature) (constraints : List Formula) : Type 0 where
  pub tree : IsTree features
  -- names in constraints are feature numbers
  pub named : All (NamesBelow (length features)) constraints
