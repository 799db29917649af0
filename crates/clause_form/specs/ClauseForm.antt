-- The clause form of a feature model and a configuration: a problem whose assignments are the products that make every must
-- true, one for one, and whose roots are the requirements. Own to this project.
--
-- Its variables are first the features, by their numbers, then the variables of its parts: of each group, by feature and
-- group, of each constraint, of each must and of each requirement. Its clauses stand in this order too, behind those of the
-- tree.
use Rattle.std.specs.Prelude.{◌≡◌, ◌<◌, ◌≤◌, ℕ, ◌+◌, List, [], ◌∷◌, ◌++◌, map, flat_map, length}
use Rattle.std.specs.List.{enumerate_from}
use Rattle.std.specs.Option.{option_map_or}
use Rattle.clauses.specs.declared.literal.Lit.{Lit}
use Rattle.clauses.specs.Clause.{negative_of, positive_of, unit_of}
use Rattle.clauses.specs.Problem.{ClauseProblem}
use Rattle.config_reader.specs.Configuration.{Configuration}
use Rattle.config_reader.specs.Consistent.{formulas_of}
use Rattle.feature_tree.specs.declared.feature.Feature.{Feature}
use Rattle.feature_tree.specs.declared.formula.Formula.{Formula}
use Rattle.feature_tree.specs.FeatureModel.{FeatureModel}
use Rattle.clause_form.specs.declared.error.BuildError.{BuildError}
use Rattle.clause_form.specs.declared.error.BuildError.TheVariants.{TooLarge, Memory}
use Rattle.clause_form.specs.Parts.{Part, Own, size, clauses, size_of, clauses_from, capped}
use Rattle.clause_form.specs.Gates.{gates, literal, gates_of, literals_from}
use Rattle.clause_form.specs.Groups.{group_part}

-- the parent of a feature that is there is there
abbrev pub parent_clauses : ℕ → Feature → List (List Lit)
parent_clauses number feature = option_map_or (λ parent. (negative_of number ∷ positive_of parent ∷ []) ∷ []) feature.parent []

-- the root is there, and so is each parent
abbrev pub tree_clauses : List Feature → List (List Lit)
tree_clauses features = unit_of (positive_of 0) ∷ flat_map (λ one. parent_clauses one.0 one.1) (enumerate_from 0 features)

-- the groups, by feature
abbrev pub group_parts : List Feature → List Part
group_parts features = flat_map (λ one. map (group_part one.0) one.1.groups) (enumerate_from 0 features)

-- a formula that is asserted: its gates, and its literal as a clause of its own
abbrev pub asserted : Formula → Part
asserted formula =
    let made = gates_of formula in
    Own (size (gates made)) (λ first. clauses (gates made) first ++ unit_of (literal made first) ∷ [])

-- the parts before those of the requirements
abbrev pub asserted_parts : FeatureModel → Configuration → List Part
asserted_parts model config = group_parts model.features ++ map asserted model.constraints ++ map asserted (formulas_of config.musts)

abbrev pub parts_of : FeatureModel → Configuration → List Part
parts_of model config = asserted_parts model config ++ map gates (map gates_of (formulas_of config.requirements))

-- how many variables there are
abbrev pub variables_of : FeatureModel → Configuration → ℕ
variables_of model config = length model.features + size_of (parts_of model config)

-- the first variable of the requirements' gates
abbrev pub first_root : FeatureModel → Configuration → ℕ
first_root model config = length model.features + size_of (asserted_parts model config)

-- this number, as far as 64 bits hold it
abbrev pub needed : FeatureModel → Configuration → ℕ
needed model config = capped (variables_of model config)

-- each requirement's literal is its root, and isn't asserted
abbrev pub problem_of : FeatureModel → Configuration → ℕ → ℕ → ClauseProblem
problem_of model config allowance rungs = record {
  variables = variables_of model config;
  features = length model.features;
  clauses = tree_clauses model.features ++ clauses_from (length model.features) (parts_of model config);
  roots = literals_from (first_root model config) (map gates_of (formulas_of config.requirements));
  allowance = allowance;
  rungs = rungs;
}

-- why there is no problem: it would need more than 1,000,000 variables, which decides first, or memory is wanted
abbrev pub IsRefusal : BuildError → ℕ → Type 0
IsRefusal (TooLarge count) needed = (count ≡ needed) × (1000000 < needed)
IsRefusal Memory needed = needed ≤ 1000000
