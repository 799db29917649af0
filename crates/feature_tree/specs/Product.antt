-- The products of a feature model (UVL): the sets of features that it allows.
use Rattle.std.specs.Prelude.{◌≡◌, ℕ, Bool, true, ◌&&◌, ◌==◌, nat_le, IsTrue, List, length, All, Option, Some, IfSome, slice_get, count_by}
use Rattle.std.specs.Option.{option_map_or}
use Rattle.feature_tree.specs.declared.group.Group.{Group}
use Rattle.feature_tree.specs.declared.group.GroupKind.{GroupKind}
use Rattle.feature_tree.specs.declared.group.GroupKind.TheVariants.{Mandatory, Optional, Or, Alternative, Range}
use Rattle.feature_tree.specs.declared.feature.Feature.{Feature}
use Rattle.feature_tree.specs.FeatureModel.{FeatureModel}
use Rattle.feature_tree.specs.Truth.{is_in, Holds}

-- how many of the children are in the set
abbrev pub count_in : List Bool → List ℕ → ℕ
count_in set children = count_by (is_in set) children

-- whether a group of a member may have this count of all its children in the set
abbrev pub allows : GroupKind → ℕ → Option ℕ → ℕ → ℕ → Bool
allows Mandatory low high all count = count == all
allows Optional low high all count = true
allows Or low high all count = nat_le 1 count
allows Alternative low high all count = count == 1
allows Range low high all count = nat_le low count && option_map_or (λ most. nat_le count most) high true

-- the set has as many of the group's children as the group asks of a member
abbrev pub IsMet : List Bool → Group → Type 0
IsMet set group = IsTrue (allows group.kind group.low group.high (length group.children) (count_in set group.children))

-- P holds of each feature that is in the set
abbrev pub EachMember : List Feature → List Bool → (Feature → Type 0) → Type 0
EachMember features set P = (i : ℕ) (feature : Feature) → slice_get features i ≡ Some feature → IsTrue (is_in set i) → P feature

pub record IsProduct (model : FeatureModel) (set : List Bool) : Type 0 where
  -- the set says of each feature whether it is in it
  pub sized : length set ≡ length model.features
  -- the root is in the set
  pub root : IsTrue (is_in set 0)
  -- the parent of each other member is in the set
  pub parents : EachMember model.features set (λ feature. IfSome feature.parent (λ parent. IsTrue (is_in set parent)))
  -- each group of each member is met; a group of a feature outside the set asks nothing
  pub groups : EachMember model.features set (λ feature. All (IsMet set) feature.groups)
  -- every constraint is true
  pub constraints : All (Holds set) model.constraints
