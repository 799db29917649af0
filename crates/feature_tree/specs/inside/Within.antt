-- Features whose numbers fit a set: each parent and each child is below the count of features.
use Rattle.std.specs.Prelude.{ℕ, ◌<◌, All}
use Rattle.std.specs.Option.{ForSome}
use Rattle.feature_tree.specs.declared.group.Group.{Group}
use Rattle.feature_tree.specs.declared.feature.Feature.{Feature}

abbrev pub ChildrenBelow : ℕ → Group → Type 0
ChildrenBelow count group = All (λ child. child < count) group.children

pub record IsWithin (count : ℕ) (feature : Feature) : Type 0 where
  pub parent : ForSome feature.parent (λ parent. parent < count)
  pub children : All (ChildrenBelow count) feature.groups
