-- The problem of the musts alone has no more variables than that of the requirements with the musts.
use Rattle.std.proofs.Common.{◌≡◌, ℕ, ◌+◌, ◌≤◌, List, [], ◌∷◌, ◌++◌, map, arith, refl, ap}
use Rattle.feature_tree.specs.declared.formula.Formula.{Formula}
use Rattle.feature_tree.specs.FeatureModel.{FeatureModel}
use Rattle.config_reader.specs.Configuration.{Configuration, of_musts}
use Rattle.config_reader.specs.Consistent.{formulas_of}
use Rattle.clause_form.specs.ClauseForm.{asserted, group_parts, needed, parts_of, variables_of}
use Rattle.clause_form.specs.Gates.{gates, gates_of}
use Rattle.clause_form.specs.Parts.{Part, size, size_of}

size_of-append : (a b : List Part) → size_of (a ++ b) ≡ size_of a + size_of b
size_of-append [] b = omega arith
size_of-append (part ∷ a) b = let more = size_of-append a b in omega arith

-- what is asserted has the variables of its gates
size_of-asserted : (formulas : List Formula) → size_of (map gates (map gates_of formulas)) ≡ size_of (map asserted formulas)
size_of-asserted [] = refl
size_of-asserted (formula ∷ formulas) = ap (λ (rest : ℕ). size (gates (gates_of formula)) + rest) (size_of-asserted formulas)

fewer_variables : (model : FeatureModel) (config : Configuration) → variables_of model (of_musts config) ≤ variables_of model config
fewer_variables model config =
    let musts = map asserted (formulas_of config.musts) in
    let before = group_parts model.features ++ map asserted model.constraints in
    let last = map gates (map gates_of (formulas_of config.requirements)) in
    let alone = map gates (map gates_of (formulas_of config.musts)) in
    let a : size_of (parts_of model config) ≡ size_of (before ++ musts) + size_of last = size_of-append (before ++ musts) last in
    let b : size_of (before ++ musts) ≡ size_of before + size_of musts = size_of-append before musts in
    let d : size_of (parts_of model (of_musts config)) ≡ size_of (before ++ []) + size_of alone = size_of-append (before ++ []) alone in
    let e : size_of (before ++ []) ≡ size_of before + 0 = size_of-append before [] in
    let f : size_of alone ≡ size_of musts = size_of-asserted (formulas_of config.musts) in
    omega arith

pub musts_need_no_more : (model : FeatureModel) (config : Configuration) → needed model (of_musts config) ≤ needed model config
musts_need_no_more model config = let fewer = fewer_variables model config in omega arith
