-- How many variables a clause form has, section by section.
use Rattle.std.proofs.Common.{◌≡◌, ◌∙◌, refl, ap, ℕ, ◌+◌, ◌≤◌, List, [], ◌∷◌, ◌++◌, map, length, arith}
use Rattle.config_reader.specs.Configuration.{Configuration}
use Rattle.config_reader.specs.Consistent.{formulas_of}
use Rattle.feature_tree.specs.FeatureModel.{FeatureModel}
use Rattle.feature_tree.specs.declared.formula.Formula.{Formula}
use Rattle.clause_form.specs.Parts.{size_of}
use Rattle.clause_form.specs.Gates.{gates, gates_of}
use Rattle.clause_form.specs.ClauseForm.{asserted, group_parts, asserted_parts, first_root, variables_of, needed}
use Rattle.clause_form.proofs.Sizes.{size_of-append}

-- asserted formulas have the variables of their gates
pub asserted-size : (formulas : List Formula) → size_of (map asserted formulas) ≡ size_of (map gates (map gates_of formulas))
asserted-size [] = refl
asserted-size (formula ∷ formulas) = let rest = asserted-size formulas in omega arith

pub asserted_parts-size : (model : FeatureModel) (config : Configuration)
    → size_of (asserted_parts model config) ≡ size_of (group_parts model.features) + size_of (map asserted model.constraints) + size_of (map asserted (formulas_of config.musts))
asserted_parts-size model config =
    size_of-append (group_parts model.features ++ map asserted model.constraints) (map asserted (formulas_of config.musts))
    ∙ ap (λ n. n + size_of (map asserted (formulas_of config.musts))) (size_of-append (group_parts model.features) (map asserted model.constraints))

pub variables_of-size : (model : FeatureModel) (config : Configuration)
    → variables_of model config ≡ first_root model config + size_of (map gates (map gates_of (formulas_of config.requirements)))
variables_of-size model config =
    let both = size_of-append (asserted_parts model config) (map gates (map gates_of (formulas_of config.requirements))) in
    ap (λ n. length model.features + n) both ∙ omega arith

pub variables_of-sections : (model : FeatureModel) (config : Configuration)
    → length model.features + (size_of (group_parts model.features) + (size_of (map gates (map gates_of model.constraints)) + (size_of (map gates (map gates_of (formulas_of config.musts))) + size_of (map gates (map gates_of (formulas_of config.requirements))))))
    ≡ variables_of model config
variables_of-sections model config =
    let first = asserted_parts-size model config in
    let whole = variables_of-size model config in
    let constraints = asserted-size model.constraints in
    let musts = asserted-size (formulas_of config.musts) in
    omega arith

pub few_variables : (model : FeatureModel) (config : Configuration) (count : ℕ) → count ≡ needed model config → count ≤ 1000000 → variables_of model config ≤ 1000000
few_variables model config count is few = omega arith
