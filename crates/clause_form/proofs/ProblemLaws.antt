-- The problem of the definition is one, and it is what the sections make.
use Rattle.std.proofs.Common.{◌≡◌, ◌∙◌, refl, ap, sym, ℕ, ◌+◌, ◌^◌, ◌<◌, ◌≤◌, List, [], ◌∷◌, ◌++◌, map, length, All, Option, Some, None, arith}
use Rattle.std.specs.Option.{ForSome, option_map_or}
use Rattle.std.proofs.lemmas.List.{append_assoc, append-nil}
use Rattle.std.proofs.lemmas.List.Elements.{All-nil, All-cons, All-head, All-tail, All-append, All-map, All-weaker}
use Rattle.clauses.specs.declared.literal.Lit.{Lit}
use Rattle.clauses.specs.Clause.{negative_of, positive_of, unit_of}
use Rattle.clauses.specs.Problem.{ClauseProblem, IsBelow, IsProblem}
use Rattle.config_reader.specs.declared.config.Requirement.{Requirement}
use Rattle.config_reader.specs.Configuration.{Configuration}
use Rattle.config_reader.specs.Consistent.{formulas_of}
use Rattle.config_reader.specs.Laws.{AreNamed}
use Rattle.feature_tree.specs.declared.feature.Feature.{Feature}
use Rattle.feature_tree.specs.declared.formula.Formula.{Formula}
use Rattle.feature_tree.specs.FeatureModel.{FeatureModel}
use Rattle.feature_tree.specs.Names.{NamesBelow}
use Rattle.feature_tree.specs.inside.Within.{IsWithin as IsFeatureWithin}
use Rattle.feature_tree.proofs.Products.{features_are_within}
use Rattle.clause_form.specs.Parts.{Part, size, clauses, size_of, clauses_from}
use Rattle.clause_form.specs.Gates.{gates, literal, gates_of, literals_from}
use Rattle.clause_form.specs.ClauseForm.{tree_clauses, group_parts, asserted, asserted_parts, parts_of, first_root, variables_of, problem_of}
use Rattle.clause_form.specs.Laws.{IsStatedOf}
use Rattle.clause_form.proofs.Below.{AreBelow, below-more, are-below-more, one-in, two-in, IsWithin, all-within, formula-gates, formulas-gates}
use Rattle.clause_form.proofs.ClauseFormLaws.{variables_of-size}
use Rattle.clause_form.proofs.GroupsBelow.{EachIn, groups-within, tree-below}
use Rattle.clause_form.proofs.Sizes.{clauses_from-append, size_of-append}

-- ---- sections one after the other

-- behind the base stand the clauses of these parts, and `next` is the variable behind theirs
pub record IsMade (base : List (List Lit)) (first : ℕ) (parts : List Part) (next : ℕ) (made : List (List Lit)) : Type 0 where
  pub clauses : made ≡ base ++ clauses_from first parts
  pub after : next ≡ first + size_of parts

pub made-none : (base : List (List Lit)) (first : ℕ) → IsMade base first [] first base
made-none base first = record { clauses = sym (append-nil base); after = omega arith }

pub made-more :
    (base : List (List Lit)) (first : ℕ) (done more : List Part) (next after : ℕ) (made now : List (List Lit))
    → IsMade base first done next made → after ≡ next + size_of more → now ≡ made ++ clauses_from next more
    → IsMade base first (done ++ more) after now
made-more base first done more next after made now before place is =
    let size = size_of-append done more in
    let here = before.after in record {
      clauses =
          is
          ∙ ap (λ these. these ++ clauses_from next more) before.clauses
          ∙ append_assoc base (clauses_from first done) (clauses_from next more)
          ∙ ap (λ k. base ++ (clauses_from first done ++ clauses_from k more)) before.after
          ∙ ap (λ these. base ++ these) (sym (clauses_from-append first done more));
      after = omega arith;
    }

-- ---- features

module _ (n : ℕ) where
  parent-in : (number : ℕ) (parent : Option ℕ) → number < n → ForSome parent (λ one. one < n) → AreBelow n (option_map_or (λ one. (negative_of number ∷ positive_of one ∷ []) ∷ []) parent [])
  parent-in number None less below = All-nil (All (IsBelow n))
  parent-in number (Some one) less below = All-cons (All (IsBelow n)) (negative_of number ∷ positive_of one ∷ []) [] (two-in n (negative_of number) (positive_of one) less (below one refl)) (All-nil (All (IsBelow n)))

  pub each-in : (number : ℕ) (features : List Feature) → number + length features ≤ n → All (IsFeatureWithin n) features → EachIn n number features
  each-in number [] room all = tt
  each-in number (feature ∷ features) room all =
      let here = All-head (IsFeatureWithin n) feature features all in
      let less : number < n = omega arith in (
        less,
        record { parent = parent-in number feature.parent less here.parent; groups = here.children },
        each-in (number + 1) features (omega arith) (All-tail (IsFeatureWithin n) feature features all),
      )

  pub asserted-within : (formula : Formula) → NamesBelow n formula → IsWithin n (asserted formula)
  asserted-within formula named =
      let one = formula-gates n formula named in
      λ first l.
      let bound = first + size (gates (gates_of formula)) in
      All-append (All (IsBelow bound)) (clauses (gates (gates_of formula)) first) (unit_of (literal (gates_of formula) first) ∷ [])
      (one.within first l)
      (All-cons (All (IsBelow bound)) (unit_of (literal (gates_of formula) first)) [] (one-in bound (literal (gates_of formula) first) (one.literal_below first l)) (All-nil (All (IsBelow bound))))

  pub all-asserted-within : (formulas : List Formula) → All (NamesBelow n) formulas → All (IsWithin n) (map asserted formulas)
  all-asserted-within formulas named = All-map (IsWithin n) asserted formulas (All-weaker (NamesBelow n) (λ formula. IsWithin n (asserted formula)) asserted-within formulas named)

  pub gated-within : (formulas : List Formula) → All (NamesBelow n) formulas → All (IsWithin n) (map gates (map gates_of formulas))
  gated-within [] named = All-nil (IsWithin n)
  gated-within (formula ∷ formulas) named =
      let one = formula-gates n formula (All-head (NamesBelow n) formula formulas named) in
      All-cons (IsWithin n) (gates (gates_of formula)) (map gates (map gates_of formulas)) one.within (gated-within formulas (All-tail (NamesBelow n) formula formulas named))

  pub formulas-named : (requirements : List Requirement) → AreNamed n requirements → All (NamesBelow n) (formulas_of requirements)
  formulas-named requirements named = All-map (NamesBelow n) (λ one. one.formula) requirements named

-- ---- the whole

module _ (model : FeatureModel) (config : Configuration) (stated : IsStatedOf model config) where
  pub features-in : EachIn (length model.features) 0 model.features
  features-in = each-in (length model.features) 0 model.features (omega arith) (features_are_within model.features stated.formed.tree)

  pub asserted_parts-within : All (IsWithin (length model.features)) (asserted_parts model config)
  asserted_parts-within =
      let n = length model.features in
      All-append (IsWithin n) (group_parts model.features ++ map asserted model.constraints) (map asserted (formulas_of config.musts))
      (All-append (IsWithin n) (group_parts model.features) (map asserted model.constraints) (groups-within n 0 model.features features-in) (all-asserted-within n model.constraints stated.formed.named))
      (all-asserted-within n (formulas_of config.musts) (formulas-named n config.musts stated.musts))

  pub parts_of-within : All (IsWithin (length model.features)) (parts_of model config)
  parts_of-within =
      let n = length model.features in
      All-append (IsWithin n) (asserted_parts model config) (map gates (map gates_of (formulas_of config.requirements))) asserted_parts-within
      (gated-within n (formulas_of config.requirements) (formulas-named n config.requirements stated.requirements))

  pub clauses-below : AreBelow (variables_of model config) (tree_clauses model.features ++ clauses_from (length model.features) (parts_of model config))
  clauses-below =
      let n = length model.features in
      let some : 0 < n = stated.formed.tree.some in
      All-append (All (IsBelow (variables_of model config))) (tree_clauses model.features) (clauses_from n (parts_of model config))
      (are-below-more n (variables_of model config) (tree_clauses model.features) (omega arith) (tree-below n model.features some features-in))
      (all-within n (parts_of model config) parts_of-within n (omega arith))

  pub roots-below : All (IsBelow (variables_of model config)) (literals_from (first_root model config) (map gates_of (formulas_of config.requirements)))
  roots-below =
      let n = length model.features in
      let members = formulas-gates n (formulas_of config.requirements) (formulas-named n config.requirements stated.requirements) in
      let whole = variables_of-size model config in
      below-more (first_root model config + size_of (map gates (map gates_of (formulas_of config.requirements)))) (variables_of model config)
      (literals_from (first_root model config) (map gates_of (formulas_of config.requirements))) (omega arith)
      (members.literals_below (first_root model config) (omega arith))

length-formulas : (requirements : List Requirement) → length (formulas_of requirements) ≡ length requirements
length-formulas [] = refl
length-formulas (one ∷ requirements) = let rest = length-formulas requirements in omega arith

pub length-literals : (first : ℕ) (formulas : List Formula) → length (literals_from first (map gates_of formulas)) ≡ length formulas
length-literals first [] = refl
length-literals first (formula ∷ formulas) = let rest = length-literals (first + size (gates (gates_of formula))) formulas in omega arith

pub is-problem :
    (model : FeatureModel) (config : Configuration) (allowance rungs : ℕ) → IsStatedOf model config → length config.requirements ≤ 4096 → variables_of model config ≤ 1000000 → allowance ≤ 2 ^ 40 → rungs ≤ 4
    → IsProblem (problem_of model config allowance rungs)
is-problem model config allowance rungs stated requirements few most least =
    let roots = length-literals (first_root model config) (formulas_of config.requirements) in
    let same = length-formulas config.requirements in record {
      few_variables = few;
      few_features = omega arith;
      clauses_below = clauses-below model config stated;
      roots_below = roots-below model config stated;
      few_roots = omega arith;
      few_learned = most;
      few_rungs = least;
    }

abbrev pub problem_with : ℕ → ℕ → List (List Lit) → List Lit → ℕ → ℕ → ClauseProblem
problem_with variables features made roots allowance rungs = record { variables = variables; features = features; clauses = made; roots = roots; allowance = allowance; rungs = rungs }

pub problem-is :
    (model : FeatureModel) (config : Configuration) (allowance rungs variables features : ℕ) (made : List (List Lit)) (roots : List Lit)
    → variables ≡ variables_of model config → features ≡ length model.features
    → made ≡ tree_clauses model.features ++ clauses_from (length model.features) (parts_of model config)
    → roots ≡ literals_from (first_root model config) (map gates_of (formulas_of config.requirements))
    → problem_with variables features made roots allowance rungs ≡ problem_of model config allowance rungs
problem-is model config allowance rungs variables features made roots a b c d =
    λ i. problem_with (a i) (b i) (c i) (d i) allowance rungs
