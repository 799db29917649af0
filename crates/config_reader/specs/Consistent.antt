-- Which requirements of a configuration can be met together. The musts are always to be met.
use Rattle.std.specs.Prelude.{◌-◌, ℕ, List, ◌++◌, map, filter_map, slice_get}
use Rattle.feature_tree.specs.declared.formula.Formula.{Formula}
use Rattle.feature_tree.specs.FeatureModel.{FeatureModel}
use Rattle.feature_tree.specs.Consistent.{IsConsistent}
use Rattle.config_reader.specs.declared.config.Requirement.{Requirement}
use Rattle.config_reader.specs.Configuration.{Configuration}

abbrev pub formulas_of : List Requirement → List Formula
formulas_of requirements = map (λ one. one.formula) requirements

-- the requirements at these positions, counted from 1
abbrev pub formulas_at : Configuration → List ℕ → List Formula
formulas_at config positions = filter_map (λ position. slice_get (formulas_of config.requirements) (position - 1)) positions

-- Some product of the model makes every must and each of these requirements true. The background is the empty list.
abbrev pub AreConsistent : FeatureModel → Configuration → List ℕ → Type 0
AreConsistent model config positions = IsConsistent model (formulas_of config.musts ++ formulas_at config positions)
