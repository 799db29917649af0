-- The generated product line as a feature model. Features are numbered in order of appearance, as a reader numbers them.
use Rattle.std.specs.Prelude.{ℕ, zero, suc, ◌==◌, Bool, true, List, [], ◌∷◌, length, map, replicate, Option, Some, None, slice_get, if◌then◌else◌}
use Rattle.std.specs.List.{flat_map}
use Rattle.feature_tree.specs.declared.feature.Feature.{Feature}
use Rattle.feature_tree.specs.declared.group.Group.{Group}
use Rattle.feature_tree.specs.declared.group.GroupKind.{GroupKind}
use Rattle.feature_tree.specs.declared.group.GroupKind.TheVariants.{Mandatory, Optional, Or, Alternative, Range}
use Rattle.feature_tree.specs.declared.formula.Formula.{Formula}
use Rattle.feature_tree.specs.declared.formula.Formula.TheVariants.{Name, Implies}
use Rattle.feature_tree.specs.FeatureModel.{FeatureModel}
use Rattle.model_gen.specs.Lines.{Implication, parent_of, children, kinds, constraints}
use Rattle.model_gen.specs.Texts.{feature_name}

-- a feature and all that is under it, in order of appearance. `count` bounds how deep this goes
abbrev pub appearing_within : ℕ → ℕ → ℕ → List ℕ
appearing_within zero size feature = []
appearing_within (suc count) size feature = feature ∷ flat_map (appearing_within count size) (children size feature)

-- all features, in order of appearance
unfoldable pub appearing : ℕ → List ℕ
appearing size = appearing_within (suc size) size 0

-- the place of the feature in the list, or the list's length where it isn't there
abbrev pub place_in : List ℕ → ℕ → ℕ
place_in [] feature = 0
place_in (first ∷ others) feature = if first == feature then 0 else suc (place_in others feature)

-- the feature's number in the model
abbrev pub number_of : ℕ → ℕ → ℕ
number_of size feature = place_in (appearing size) feature

-- the bounds of a group of so many children: a range asks for one at least and allows all
abbrev pub low_of : GroupKind → ℕ
low_of Mandatory = 0
low_of Optional = 0
low_of Or = 0
low_of Alternative = 0
low_of Range = 1

abbrev pub high_of : GroupKind → ℕ → Option ℕ
high_of Mandatory count = None
high_of Optional count = None
high_of Or count = None
high_of Alternative count = None
high_of Range count = Some count

abbrev pub group_of : GroupKind → List ℕ → Group
group_of kind held = record { kind = kind; low = low_of kind; high = high_of kind (length held); children = held }

-- one group for all children, where there is a kind for it
abbrev pub groups_by : Option GroupKind → List ℕ → List Group
groups_by None held = []
groups_by (Some kind) held = group_of kind held ∷ []

abbrev pub feature_of : ℕ → ℕ → ℕ → Feature
feature_of seed size feature = record {
  name = feature_name feature;
  parent = if feature == 0 then None else Some (number_of size (parent_of feature));
  groups = groups_by (slice_get (kinds seed size) feature) (map (number_of size) (children size feature));
}

abbrev pub formula_of : ℕ → Implication → Formula
formula_of size implication = Implies (Name (number_of size implication.feature)) (Name (number_of size implication.needed))

-- the generated model
abbrev pub model_of : ℕ → ℕ → FeatureModel
model_of seed size = record {
  features = map (feature_of seed size) (appearing size);
  constraints = map (formula_of size) (constraints seed size);
}

-- the set of all its features
abbrev pub all_features : ℕ → List Bool
all_features size = replicate (length (appearing size)) true
