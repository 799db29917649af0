-- What holds of what is read of every file.
use Rattle.std.specs.Prelude.{◌≡◌, ℕ, ◌<◌, ◌≤◌, All, List, length, Ok}
use Rattle.feature_tree.specs.FeatureModel.{FeatureModel}
use Rattle.feature_tree.specs.Names.{NamesBelow}
use Rattle.config_reader.specs.declared.config.Requirement.{Requirement}
use Rattle.config_reader.specs.Configuration.{Configuration}
use Rattle.config_reader.specs.Judgement.{most}
use Rattle.config_reader.specs.Reading.{configuration}

-- each name in the formulas is below this count
abbrev pub AreNamed : ℕ → List Requirement → Type 0
AreNamed count requirements = All (λ one. NamesBelow count one.formula) requirements

-- with the count of a model's features: each name in a formula is the number of a feature, and there are no more musts than
-- a file may have
pub record IsStated (count : ℕ) (config : Configuration) : Type 0 where
  pub requirements : AreNamed count config.requirements
  pub musts : AreNamed count config.musts
  pub musts_few : length config.musts ≤ most

-- so it is of every file, over a model with a feature
abbrev pub ReadingsAreStated : Type 0
ReadingsAreStated =
    (bytes : List ℕ) (model : FeatureModel) (config : Configuration) → 0 < length model.features → configuration bytes model ≡ Ok config
    → IsStated (length model.features) config
