-- The sets of requirements that one product can meet.
use Rattle.std.specs.Prelude.{Bool, List, All, Contains}
use Rattle.feature_tree.specs.declared.formula.Formula.{Formula}
use Rattle.feature_tree.specs.FeatureModel.{FeatureModel}
use Rattle.feature_tree.specs.Truth.{Holds}
use Rattle.feature_tree.specs.Product.{IsProduct}

-- Some product of the model makes every one of the formulas true. The background is the empty list: the model alone.
abbrev pub IsConsistent : FeatureModel → List Formula → Type 0
IsConsistent model formulas = (set : List Bool) × IsProduct model set × All (Holds set) formulas

-- A part of a consistent list, in any order, is consistent.
abbrev pub ConsistentIsMonotone : Type 0
ConsistentIsMonotone = (model : FeatureModel) (part whole : List Formula) → All (Contains whole) part → IsConsistent model whole → IsConsistent model part
