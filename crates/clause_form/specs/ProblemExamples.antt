-- Worked examples of whole problems. Each computes.
use Rattle.std.specs.Prelude.{◌≡◌, ℕ, List, [], ◌∷◌, Option, Some, None, map, refl}
use Rattle.std.specs.List.{range_with_len}
use Rattle.clauses.specs.Clause.{positive_of as yes, negative_of as no}
use Rattle.config_reader.specs.declared.config.Requirement.{Requirement}
use Rattle.config_reader.specs.Configuration.{Configuration}
use Rattle.feature_tree.specs.declared.feature.Feature.{Feature}
use Rattle.feature_tree.specs.declared.formula.Formula.{Formula}
use Rattle.feature_tree.specs.declared.formula.Formula.TheVariants.{Name, Not, Any, All, Implies}
use Rattle.feature_tree.specs.declared.group.Group.{Group}
use Rattle.feature_tree.specs.declared.group.GroupKind.{GroupKind}
use Rattle.feature_tree.specs.declared.group.GroupKind.TheVariants.{Mandatory, Optional, Alternative, Range}
use Rattle.feature_tree.specs.FeatureModel.{FeatureModel}
use Rattle.feature_tree.specs.Folds.{folds}
use Rattle.clause_form.specs.ClauseForm.{first_root, needed, problem_of}

-- names and texts make no difference
abbrev feature : Option ℕ → List Group → Feature
feature parent groups = record { name = []; parent = parent; groups = groups }

abbrev group : GroupKind → List ℕ → Group
group kind children = record { kind = kind; low = 0; high = None; children = children }

abbrev range : ℕ → Option ℕ → List ℕ → Group
range low high children = record { kind = Range; low = low; high = high; children = children }

abbrev leaf : ℕ → Feature
leaf parent = feature (Some parent) []

abbrev wanted : Formula → Requirement
wanted formula = record { text = []; formula = formula }

abbrev config : List Formula → List Formula → Configuration
config musts requirements = record { requirements = map wanted requirements; musts = map wanted musts }

-- ---- a phone: 1 is its screen, which is basic, 2, or in colour, 3; a camera, 4, needs colour; 5 is a GPS

abbrev phone : FeatureModel
phone = record {
  features =
      feature None (group Mandatory (1 ∷ []) ∷ group Optional (4 ∷ 5 ∷ []) ∷ [])
      ∷ feature (Some 0) (group Alternative (2 ∷ 3 ∷ []) ∷ [])
      ∷ leaf 1 ∷ leaf 1 ∷ leaf 0 ∷ leaf 0 ∷ [];
  constraints = Implies (Name 4) (Name 3) ∷ [];
}

-- camera, basic screen and GPS are wanted. 6, 7 and 8 count the two screens, 9 is the constraint's gate
phone-problem : problem_of phone (config [] (Name 4 ∷ Name 2 ∷ Name 5 ∷ [])) 10000 0 ≡ record {
  variables = 10;
  features = 6;
  clauses =
      (yes 0 ∷ [])
      ∷ (no 1 ∷ yes 0 ∷ []) ∷ (no 2 ∷ yes 1 ∷ []) ∷ (no 3 ∷ yes 1 ∷ []) ∷ (no 4 ∷ yes 0 ∷ []) ∷ (no 5 ∷ yes 0 ∷ [])
      ∷ (no 0 ∷ yes 1 ∷ [])
      ∷ (no 6 ∷ yes 2 ∷ []) ∷ (yes 6 ∷ no 2 ∷ [])
      ∷ (no 7 ∷ yes 6 ∷ yes 3 ∷ []) ∷ (yes 7 ∷ no 6 ∷ []) ∷ (yes 7 ∷ no 3 ∷ [])
      ∷ (no 8 ∷ yes 3 ∷ []) ∷ (no 8 ∷ yes 6 ∷ []) ∷ (yes 8 ∷ no 6 ∷ no 3 ∷ [])
      ∷ (no 1 ∷ yes 7 ∷ []) ∷ (no 1 ∷ no 8 ∷ [])
      ∷ (yes 9 ∷ yes 4 ∷ []) ∷ (yes 9 ∷ no 3 ∷ []) ∷ (no 9 ∷ no 4 ∷ yes 3 ∷ [])
      ∷ (yes 9 ∷ [])
      ∷ [];
  roots = yes 4 ∷ yes 2 ∷ yes 5 ∷ [];
  allowance = 10000;
  rungs = 0;
}
phone-problem = simp folds refl

-- a must is asserted, and its gate, 10, stands before those of the requirements, 11 and 12
phone-musts : problem_of phone (config (Any (Name 2 ∷ Name 5 ∷ []) ∷ []) (All (Name 4 ∷ Name 5 ∷ []) ∷ Not (All (Name 4 ∷ Name 5 ∷ [])) ∷ [])) 10000 0 ≡ record {
  variables = 13;
  features = 6;
  clauses =
      (yes 0 ∷ [])
      ∷ (no 1 ∷ yes 0 ∷ []) ∷ (no 2 ∷ yes 1 ∷ []) ∷ (no 3 ∷ yes 1 ∷ []) ∷ (no 4 ∷ yes 0 ∷ []) ∷ (no 5 ∷ yes 0 ∷ [])
      ∷ (no 0 ∷ yes 1 ∷ [])
      ∷ (no 6 ∷ yes 2 ∷ []) ∷ (yes 6 ∷ no 2 ∷ [])
      ∷ (no 7 ∷ yes 6 ∷ yes 3 ∷ []) ∷ (yes 7 ∷ no 6 ∷ []) ∷ (yes 7 ∷ no 3 ∷ [])
      ∷ (no 8 ∷ yes 3 ∷ []) ∷ (no 8 ∷ yes 6 ∷ []) ∷ (yes 8 ∷ no 6 ∷ no 3 ∷ [])
      ∷ (no 1 ∷ yes 7 ∷ []) ∷ (no 1 ∷ no 8 ∷ [])
      ∷ (yes 9 ∷ yes 4 ∷ []) ∷ (yes 9 ∷ no 3 ∷ []) ∷ (no 9 ∷ no 4 ∷ yes 3 ∷ [])
      ∷ (yes 9 ∷ [])
      ∷ (yes 10 ∷ no 2 ∷ []) ∷ (yes 10 ∷ no 5 ∷ []) ∷ (no 10 ∷ yes 2 ∷ yes 5 ∷ [])
      ∷ (yes 10 ∷ [])
      ∷ (no 11 ∷ yes 4 ∷ []) ∷ (no 11 ∷ yes 5 ∷ []) ∷ (yes 11 ∷ no 4 ∷ no 5 ∷ [])
      ∷ (no 12 ∷ yes 4 ∷ []) ∷ (no 12 ∷ yes 5 ∷ []) ∷ (yes 12 ∷ no 4 ∷ no 5 ∷ [])
      ∷ [];
  roots = yes 11 ∷ no 12 ∷ [];
  allowance = 10000;
  rungs = 0;
}
phone-musts = simp folds refl

-- ---- two to three of four children: 5 to 14 count them, 12 says that there are two and 14 that there are four

abbrev some_of_four : FeatureModel
some_of_four = record { features = feature None (range 2 (Some 3) (1 ∷ 2 ∷ 3 ∷ 4 ∷ []) ∷ []) ∷ leaf 0 ∷ leaf 0 ∷ leaf 0 ∷ leaf 0 ∷ []; constraints = [] }

some_of_four-problem : problem_of some_of_four (config [] (Name 1 ∷ Name 2 ∷ Name 3 ∷ Name 4 ∷ [])) 10000 0 ≡ record {
  variables = 15;
  features = 5;
  clauses =
      (yes 0 ∷ [])
      ∷ (no 1 ∷ yes 0 ∷ []) ∷ (no 2 ∷ yes 0 ∷ []) ∷ (no 3 ∷ yes 0 ∷ []) ∷ (no 4 ∷ yes 0 ∷ [])
      ∷ (no 5 ∷ yes 1 ∷ []) ∷ (yes 5 ∷ no 1 ∷ [])
      ∷ (no 6 ∷ yes 5 ∷ yes 2 ∷ []) ∷ (yes 6 ∷ no 5 ∷ []) ∷ (yes 6 ∷ no 2 ∷ [])
      ∷ (no 7 ∷ yes 2 ∷ []) ∷ (no 7 ∷ yes 5 ∷ []) ∷ (yes 7 ∷ no 5 ∷ no 2 ∷ [])
      ∷ (no 8 ∷ yes 6 ∷ yes 3 ∷ []) ∷ (yes 8 ∷ no 6 ∷ []) ∷ (yes 8 ∷ no 3 ∷ [])
      ∷ (no 9 ∷ yes 7 ∷ yes 3 ∷ []) ∷ (no 9 ∷ yes 7 ∷ yes 6 ∷ []) ∷ (yes 9 ∷ no 7 ∷ []) ∷ (yes 9 ∷ no 6 ∷ no 3 ∷ [])
      ∷ (no 10 ∷ yes 3 ∷ []) ∷ (no 10 ∷ yes 7 ∷ []) ∷ (yes 10 ∷ no 7 ∷ no 3 ∷ [])
      ∷ (no 11 ∷ yes 8 ∷ yes 4 ∷ []) ∷ (yes 11 ∷ no 8 ∷ []) ∷ (yes 11 ∷ no 4 ∷ [])
      ∷ (no 12 ∷ yes 9 ∷ yes 4 ∷ []) ∷ (no 12 ∷ yes 9 ∷ yes 8 ∷ []) ∷ (yes 12 ∷ no 9 ∷ []) ∷ (yes 12 ∷ no 8 ∷ no 4 ∷ [])
      ∷ (no 13 ∷ yes 10 ∷ yes 4 ∷ []) ∷ (no 13 ∷ yes 10 ∷ yes 9 ∷ []) ∷ (yes 13 ∷ no 10 ∷ []) ∷ (yes 13 ∷ no 9 ∷ no 4 ∷ [])
      ∷ (no 14 ∷ yes 4 ∷ []) ∷ (no 14 ∷ yes 10 ∷ []) ∷ (yes 14 ∷ no 10 ∷ no 4 ∷ [])
      ∷ (no 0 ∷ yes 12 ∷ []) ∷ (no 0 ∷ no 14 ∷ [])
      ∷ [];
  roots = yes 1 ∷ yes 2 ∷ yes 3 ∷ yes 4 ∷ [];
  allowance = 10000;
  rungs = 0;
}
some_of_four-problem = simp folds refl

-- ---- two optional features with constraints on both

abbrev options : List Formula → FeatureModel
options constraints = record { features = feature None (group Optional (1 ∷ 2 ∷ []) ∷ []) ∷ leaf 0 ∷ leaf 0 ∷ []; constraints = constraints }

-- each constraint has a gate, and its clause stands behind the gate's
options-problem : problem_of (options (Any (Name 1 ∷ Name 2 ∷ []) ∷ Any (Name 1 ∷ Not (Name 2) ∷ []) ∷ [])) (config [] []) 0 0 ≡ record {
  variables = 5;
  features = 3;
  clauses =
      (yes 0 ∷ []) ∷ (no 1 ∷ yes 0 ∷ []) ∷ (no 2 ∷ yes 0 ∷ [])
      ∷ (yes 3 ∷ no 1 ∷ []) ∷ (yes 3 ∷ no 2 ∷ []) ∷ (no 3 ∷ yes 1 ∷ yes 2 ∷ []) ∷ (yes 3 ∷ [])
      ∷ (yes 4 ∷ no 1 ∷ []) ∷ (yes 4 ∷ yes 2 ∷ []) ∷ (no 4 ∷ yes 1 ∷ no 2 ∷ []) ∷ (yes 4 ∷ [])
      ∷ [];
  roots = [];
  allowance = 0;
  rungs = 0;
}
options-problem = simp folds refl

-- no choice of the two meets all four constraints
four_constraints-problem :
    problem_of
    (options (Any (Name 1 ∷ Name 2 ∷ []) ∷ Any (Name 1 ∷ Not (Name 2) ∷ []) ∷ Any (Not (Name 1) ∷ Name 2 ∷ []) ∷ Any (Not (Name 1) ∷ Not (Name 2) ∷ []) ∷ []))
    (config [] []) 1 4 ≡ record {
      variables = 7;
      features = 3;
      clauses =
          (yes 0 ∷ []) ∷ (no 1 ∷ yes 0 ∷ []) ∷ (no 2 ∷ yes 0 ∷ [])
          ∷ (yes 3 ∷ no 1 ∷ []) ∷ (yes 3 ∷ no 2 ∷ []) ∷ (no 3 ∷ yes 1 ∷ yes 2 ∷ []) ∷ (yes 3 ∷ [])
          ∷ (yes 4 ∷ no 1 ∷ []) ∷ (yes 4 ∷ yes 2 ∷ []) ∷ (no 4 ∷ yes 1 ∷ no 2 ∷ []) ∷ (yes 4 ∷ [])
          ∷ (yes 5 ∷ yes 1 ∷ []) ∷ (yes 5 ∷ no 2 ∷ []) ∷ (no 5 ∷ no 1 ∷ yes 2 ∷ []) ∷ (yes 5 ∷ [])
          ∷ (yes 6 ∷ yes 1 ∷ []) ∷ (yes 6 ∷ yes 2 ∷ []) ∷ (no 6 ∷ no 1 ∷ no 2 ∷ []) ∷ (yes 6 ∷ [])
          ∷ [];
      roots = [];
      allowance = 1;
      rungs = 4;
    }
four_constraints-problem = simp folds refl

-- ---- how many variables

-- of the children from 1 on, so many, as a range
abbrev wide : ℕ → ℕ → Option ℕ → FeatureModel
wide children low high = record { features = feature None (range low high (range_with_len 1 children) ∷ []) ∷ map (λ child. leaf 0) (range_with_len 1 children); constraints = [] }

-- 1,000 of 2,000: 2,001 features, and those that count up to 1,001
wide-needed : needed (wide 2000 1000 (Some 1000)) (config [] []) ≡ 1503501
wide-needed = refl

-- equal requirements aren't shared
shared-needed : needed (wide 2 0 None) (config [] (All (Name 1 ∷ Name 2 ∷ []) ∷ All (Name 1 ∷ Name 2 ∷ []) ∷ [])) ≡ 5
shared-needed = simp folds refl

shared-first_root : first_root (wide 2 0 None) (config [] (All (Name 1 ∷ Name 2 ∷ []) ∷ All (Name 1 ∷ Name 2 ∷ []) ∷ [])) ≡ 3
shared-first_root = refl
