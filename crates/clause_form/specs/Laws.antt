-- What the clause form means.
use Rattle.std.specs.Prelude.{◌≡◌, ◌↔◌, ℕ, Bool, IsTrue, List, All, length, take}
use Rattle.req_keys.specs.Key.{PositionSet}
use Rattle.clauses.specs.Clause.{are_satisfied}
use Rattle.clauses.specs.Met.{AreMet, IsMet}
use Rattle.clauses.specs.Problem.{ClauseProblem, clauses_with}
use Rattle.config_reader.specs.Configuration.{Configuration}
use Rattle.config_reader.specs.Consistent.{AreConsistent, formulas_at, formulas_of}
use Rattle.config_reader.specs.Laws.{AreNamed}
use Rattle.feature_tree.specs.FeatureModel.{FeatureModel}
use Rattle.feature_tree.specs.Product.{IsProduct}
use Rattle.feature_tree.specs.Truth.{Holds}
use Rattle.feature_tree.specs.WellFormed.{IsWellFormed}
use Rattle.clause_form.specs.ClauseForm.{problem_of}

-- the model is one, and every name in the configuration is one of its features
pub record IsStatedOf (model : FeatureModel) (config : Configuration) : Type 0 where
  pub formed : IsWellFormed model.features model.constraints
  pub requirements : AreNamed (length model.features) config.requirements
  pub musts : AreNamed (length model.features) config.musts

-- a product that makes every must and each of the requirements at these positions true
pub record IsWanted (model : FeatureModel) (config : Configuration) (positions : List ℕ) (set : List Bool) : Type 0 where
  pub product : IsProduct model set
  pub musts : All (Holds set) (formulas_of config.musts)
  pub requirements : All (Holds set) (formulas_at config positions)

-- a value for each variable, such that the clauses and the roots at the key's positions are true
pub record IsAssignment (problem : ClauseProblem) (key : PositionSet) (values : List Bool) : Type 0 where
  pub sized : length values ≡ problem.variables
  pub satisfied : IsTrue (are_satisfied values (clauses_with problem key))

-- the features that an assignment takes
abbrev pub features_in : FeatureModel → List Bool → List Bool
features_in model values = take (length model.features) values

-- Of each assignment the features are a product that makes every must, and each requirement of the key, true.
abbrev pub AssignmentsAreProducts : Type 0
AssignmentsAreProducts =
    (model : FeatureModel) (config : Configuration) (allowance rungs : ℕ) (key : PositionSet) (values : List Bool) → IsStatedOf model config
    → IsAssignment (problem_of model config allowance rungs) key values → IsWanted model config key.members (features_in model values)

-- Each such product has exactly one assignment.
abbrev pub ProductsAreAssignments : Type 0
ProductsAreAssignments =
    (model : FeatureModel) (config : Configuration) (allowance rungs : ℕ) (key : PositionSet) (set : List Bool) → IsStatedOf model config
    → IsWanted model config key.members set
    → (values : List Bool) × IsAssignment (problem_of model config allowance rungs) key values × (features_in model values ≡ set)
    × ((other : List Bool) → IsAssignment (problem_of model config allowance rungs) key other → features_in model other ≡ set → other ≡ values)

-- So requirements are consistent exactly where the problem meets them.
abbrev pub ConsistentIsMet : Type 0
ConsistentIsMet =
    (model : FeatureModel) (config : Configuration) (allowance rungs : ℕ) (key : PositionSet) → IsStatedOf model config
    → AreConsistent model config key.members ↔ IsMet (problem_of model config allowance rungs) key

-- The same of positions, as the property of a problem says it.
abbrev pub ConsistentAreMet : Type 0
ConsistentAreMet =
    (model : FeatureModel) (config : Configuration) (allowance rungs : ℕ) (positions : List ℕ) → IsStatedOf model config
    → AreConsistent model config positions ↔ AreMet (problem_of model config allowance rungs) positions
