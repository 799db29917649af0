-- What holds of what has been read of some lines, so that a feature more may be put where it stands.
use Rattle.std.specs.Prelude.{◌≡◌, ℕ, ◌+◌, ◌<◌, All, List, [], ◌∷◌, length, Option, Some, None}
use Rattle.feature_tree.specs.declared.feature.Feature.{Feature}
use Rattle.feature_tree.specs.Names.{NamesBelow}
use Rattle.feature_tree.specs.WellFormed.{groups_of, HasBounds, feature_names}
use Rattle.feature_tree.specs.Growing.{IsNewName}
use Rattle.name_table.specs.Numbers.{Numbers}
use Rattle.uvl_lex.specs.Text.{IsSpanOf}
use Rattle.uvl_reader.specs.declared.kind.LineKind.{LineKind}
use Rattle.uvl_reader.specs.declared.kind.LineKind.TheVariants.{SectionLine, FeatureLine, GroupLine, ConstraintLine, NoLine}
use Rattle.uvl_reader.specs.declared.pending.Pending.{Pending}
use Rattle.uvl_reader.specs.declared.stack.Open.{Open}
use Rattle.uvl_reader.specs.inside.Standing.{Standing, StatedFormula}

abbrev pub features_in : Option (List Feature) → List Feature
features_in None = []
features_in (Some features) = features

-- names with their places, of which the first is this
abbrev pub placed_names : ℕ → List (List ℕ) → Numbers
placed_names from [] = []
placed_names from (name ∷ names) = (name, from) ∷ placed_names (from + 1) names

-- A section line stands under none, an open feature is there, and the parent of an open group has a group.
abbrev pub HasOwner : List Feature → LineKind → ℕ → List Open → Type 0
HasOwner features (SectionLine section) owner above = above ≡ []
HasOwner features FeatureLine owner above = owner < length features
HasOwner features GroupLine owner above = 0 < length (groups_of features owner)
HasOwner features ConstraintLine owner above = Unit {0}
HasOwner features NoLine owner above = Unit {0}

abbrev pub AllOwned : List Feature → List Open → Type 0
AllOwned features [] = Unit {0}
AllOwned features (last ∷ above) = HasOwner features last.kind last.feature above × AllOwned features above

-- a pending group is the last open line, and its parent is there
abbrev pub AreOpen : List Feature → Option Pending → List Open → Type 0
AreOpen features None lines = AllOwned features lines
AreOpen features (Some pending) [] = ⊥
AreOpen features (Some pending) (last ∷ above) =
    (last.kind ≡ GroupLine) × (last.feature < length features) × AllOwned features above
    × HasBounds pending.header.kind pending.header.low pending.header.high

-- a formula names tokens, whose spans lie in the bytes
pub record IsStated (bytes : List ℕ) (stated : StatedFormula) : Type 0 where
  pub spans : All (IsSpanOf bytes) stated.tokens
  pub names : NamesBelow (length stated.tokens) stated.formula

pub record IsGood (bytes : List ℕ) (read : Standing) : Type 0 where
  pub names : read.names ≡ placed_names 0 (feature_names (features_in read.tree))
  pub open_now : AreOpen (features_in read.tree) read.pending read.open_now
  pub stated : All (IsStated bytes) read.stated

-- one feature more may be added in the group of this owner
abbrev pub TakesMore : Option (List Feature) → Option Pending → ℕ → List ℕ → Type 0
TakesMore None pending owner name = Unit {0}
TakesMore (Some features) None owner name = (0 < length (groups_of features owner)) × (length features < 65535) × IsNewName features name
TakesMore (Some features) (Some pending) owner name =
    (owner < length features) × (length features < 65535) × IsNewName features name
    × HasBounds pending.header.kind pending.header.low pending.header.high
