-- Assignments are the products that make every must, and the requirements of a key, true.
use Rattle.std.proofs.Common.{◌≡◌, ◌∙◌, refl, ap, sym, subst, ℕ, ◌+◌, ◌-◌, ◌≤◌, Bool, true, false, ◌&&◌, ◌||◌, List, [], ◌∷◌, ◌++◌, map, length, take, drop, All, Option, Some, None, option_map, arith}
use Rattle.std.specs.Prelude.{filter_map, slice_get}
use Rattle.std.specs.List.{cons_option, list_all, enumerate_from}
use Rattle.std.proofs.lemmas.Bool.{and_parts, and_from, eq-eqb}
use Rattle.std.proofs.lemmas.Option.{slice_get-map}
use Rattle.std.proofs.lemmas.List.{length-append, length-take-le, length-drop, take-append-drop}
use Rattle.std.proofs.Math.Seq.{take-append_seam}
use Rattle.std.proofs.lemmas.List.Elements.{All-head, All-tail, All-append}
use Rattle.std.proofs.lemmas.List.Sums.{AllPass-from_list_all, list_all-from_AllPass}
use Rattle.lists.proofs.Appends.{All-append_left, All-append_right}
use Rattle.req_keys.specs.Key.{PositionSet}
use Rattle.clauses.specs.declared.literal.Lit.{Lit}
use Rattle.clauses.specs.Clause.{is_true_in, are_satisfied, unit_of}
use Rattle.clauses.specs.Problem.{ClauseProblem, roots_at}
use Rattle.config_reader.specs.Configuration.{Configuration}
use Rattle.config_reader.specs.Consistent.{formulas_at, formulas_of}
use Rattle.feature_tree.specs.declared.formula.Formula.{Formula}
use Rattle.feature_tree.specs.FeatureModel.{FeatureModel}
use Rattle.feature_tree.specs.Names.{NamesBelow}
use Rattle.feature_tree.specs.Product.{IsProduct}
use Rattle.feature_tree.specs.Truth.{Holds, is_in, truth}
use Rattle.feature_tree.proofs.Decided.{product_decided}
use Rattle.clause_form.specs.Laws.{IsStatedOf, IsWanted, IsAssignment, features_in, AssignmentsAreProducts, ProductsAreAssignments, ConsistentIsMet}
use Rattle.clause_form.specs.Parts.{size_of, clauses_from}
use Rattle.clause_form.specs.Gates.{gates, gates_of}
use Rattle.clause_form.specs.ClauseForm.{tree_clauses, asserted_parts, parts_of, first_root, variables_of, problem_of}
use Rattle.clause_form.proofs.Extensions.{AreTrue, HasOne, true-both, true-parts, one-same}
use Rattle.clause_form.proofs.FormulaMeaning.{truth-rests}
use Rattle.clause_form.proofs.ProblemLaws.{formulas-named}
use Rattle.clause_form.proofs.Sizes.{clauses_from-append}
use Rattle.clause_form.proofs.WholeMeaning.{is_right, is_allowed, requirements-mean, whole-means}

-- ---- roots

module _ (values : List Bool) (test : Formula → Bool) where
  step : (root : Option Lit) (formula : Option Formula) (roots : List Lit) (formulas : List Formula)
      → option_map (is_true_in values) root ≡ option_map test formula → are_satisfied values (map unit_of roots) ≡ list_all test formulas
      → are_satisfied values (map unit_of (cons_option root roots)) ≡ list_all test (cons_option formula formulas)
  step None None roots formulas same rest = rest
  step None (Some formula) roots formulas same rest = absurd (cc)
  step (Some root) None roots formulas same rest = absurd (cc)
  step (Some root) (Some formula) roots formulas same rest =
      let here : is_true_in values root ≡ test formula = cc in
      ap (λ b. b && are_satisfied values (map unit_of roots)) (or_false (is_true_in values root) ∙ here) ∙ ap (λ b. test formula && b) rest where
        or_false : (x : Bool) → (x || false) ≡ x
        or_false true = refl
        or_false false = refl

  -- the roots at some positions are as true as the formulas there
  roots-truth : (roots : List Lit) (formulas : List Formula) → map (is_true_in values) roots ≡ map test formulas → (positions : List ℕ)
      → are_satisfied values (map unit_of (filter_map (λ position. slice_get roots (position - 1)) positions)) ≡ list_all test (filter_map (λ position. slice_get formulas (position - 1)) positions)
  roots-truth roots formulas same [] = refl
  roots-truth roots formulas same (position ∷ positions) =
      step (slice_get roots (position - 1)) (slice_get formulas (position - 1)) (filter_map (λ p. slice_get roots (p - 1)) positions) (filter_map (λ p. slice_get formulas (p - 1)) positions)
      (sym (slice_get-map (is_true_in values) roots (position - 1)) ∙ ap (λ xs. slice_get xs (position - 1)) same ∙ slice_get-map test formulas (position - 1))
      (roots-truth roots formulas same positions)

truths-rest : (n : ℕ) (set more : List Bool) → n ≤ length set → (formulas : List Formula) → All (NamesBelow n) formulas → map (truth (set ++ more)) formulas ≡ map (truth set) formulas
truths-rest n set more l [] named = refl
truths-rest n set more l (formula ∷ formulas) named =
    ap (λ b. b ∷ map (truth (set ++ more)) formulas) (truth-rests n formula (All-head (NamesBelow n) formula formulas named) set more l)
    ∙ ap (λ bs. truth set formula ∷ bs) (truths-rest n set more l formulas (All-tail (NamesBelow n) formula formulas named))

-- ---- products and what is allowed

module _ (model : FeatureModel) (config : Configuration) (set : List Bool) where
  allowed-product : length set ≡ length model.features → is_allowed model config set ≡ true → IsProduct model set × All (Holds set) (formulas_of config.musts)
  allowed-product sized e =
      let root = is_in set 0 in
      let members = list_all (is_right set) (enumerate_from 0 model.features) in
      let constraints = list_all (truth set) model.constraints in
      let outer = and_parts ((root && members) && constraints) (list_all (truth set) (formulas_of config.musts)) e in
      let inner = and_parts (root && members) constraints outer.0 in
      let first = and_parts root members inner.0 in
      let size_test = eq-eqb (length set) (length model.features) sized in (
        (product_decided model set).0 (and_from _ constraints (and_from _ members (and_from _ root size_test first.0) first.1) inner.1),
        AllPass-from_list_all (truth set) (formulas_of config.musts) outer.1,
      )

  product-allowed : IsProduct model set → All (Holds set) (formulas_of config.musts) → is_allowed model config set ≡ true
  product-allowed product musts =
      let root = is_in set 0 in
      let members = list_all (is_right set) (enumerate_from 0 model.features) in
      let constraints = list_all (truth set) model.constraints in
      let outer = and_parts _ constraints ((product_decided model set).1 product) in
      let inner = and_parts _ members outer.0 in
      let first = and_parts _ root inner.0 in
      and_from ((root && members) && constraints) (list_all (truth set) (formulas_of config.musts)) (and_from (root && members) constraints (and_from root members first.1 inner.1) outer.1)
      (list_all-from_AllPass (truth set) (formulas_of config.musts) musts)

-- ---- the laws

module _ (model : FeatureModel) (config : Configuration) (allowance rungs : ℕ) (stated : IsStatedOf model config) where
  abbrev Problem : ClauseProblem
  Problem = problem_of model config allowance rungs

  abbrev n : ℕ
  n = length model.features

  -- behind a set the roots are as true as the requirements in the set
  roots-say : (set more : List Bool) → length set ≡ length model.features → AreTrue (set ++ more) (problem_of model config allowance rungs).clauses
      → map (is_true_in (set ++ more)) (problem_of model config allowance rungs).roots ≡ map (truth set) (formulas_of config.requirements)
  roots-say set more sized e =
      let values = set ++ more in
      let wanted = formulas_of config.requirements in
      let named = formulas-named n config.requirements stated.requirements in
      let members = requirements-mean n wanted named in
      let behind = (true-parts values (tree_clauses model.features) (clauses_from n (parts_of model config)) e).1 in
      let split = ap (are_satisfied values) (sym (clauses_from-append n (asserted_parts model config) (map gates (map gates_of wanted)))) ∙ behind in
      let last = (true-parts values (clauses_from n (asserted_parts model config)) (clauses_from (first_root model config) (map gates (map gates_of wanted))) split).1 in
      members.says (first_root model config) (omega arith) values last
      ∙ truths-rest n set more (omega arith) wanted named

  place : length model.features ≡ length model.features + 0
  place = omega arith

  assignment-wanted : (key : PositionSet) (values : List Bool) → IsAssignment (problem_of model config allowance rungs) key values → IsWanted model config key.members (features_in model values)
  assignment-wanted key values is =
      let set = take n values in
      let more = drop n values in
      let joined_is : set ++ more ≡ values = take-append-drop n values in
      let size : length values ≡ variables_of model config = is.sized in
      let set_size : length (take n values) ≡ n = length-take-le n values (omega arith) in
      let both = true-parts values Problem.clauses (map unit_of (roots_at Problem key)) is.satisfied in
      let behind : AreTrue (set ++ more) Problem.clauses = subst (λ v. AreTrue v Problem.clauses) (sym joined_is) both.0 in
      let roots : AreTrue (set ++ more) (map unit_of (roots_at Problem key)) = subst (λ v. AreTrue v (map unit_of (roots_at Problem key))) (sym joined_is) both.1 in
      let whole = whole-means model config stated in
      let allowed : is_allowed model config (set ++ more) ≡ true =
      whole.says n (omega arith) (set ++ more) (ap (λ k. are_satisfied (set ++ more) (tree_clauses model.features ++ clauses_from k (parts_of model config))) (sym place) ∙ behind) in
      let product = allowed-product model config set set_size (sym (whole.rests set more (omega arith)) ∙ allowed) in record {
        product = product.0;
        musts = product.1;
        requirements = AllPass-from_list_all (truth set) (formulas_at config key.members)
            (sym (roots-truth (set ++ more) (truth set) Problem.roots (formulas_of config.requirements) (roots-say set more set_size behind) key.members) ∙ roots);
      }

  wanted-assignment : (key : PositionSet) (set : List Bool) → IsWanted model config key.members set
      → (values : List Bool) × IsAssignment (problem_of model config allowance rungs) key values × (features_in model values ≡ set)
      × ((other : List Bool) → IsAssignment (problem_of model config allowance rungs) key other → features_in model other ≡ set → other ≡ values)
  wanted-assignment key set is =
      let whole = whole-means model config stated in
      let set_size : length set ≡ n = is.product.sized in
      let allowed = product-allowed model config set is.product is.musts in
      let found = whole.one set (omega arith) allowed in
      let here : length set + 0 ≡ n = omega arith in
      let count : 0 + size_of (parts_of model config) ≡ size_of (parts_of model config) = omega arith in
      let one : HasOne set (size_of (parts_of model config)) Problem.clauses =
      one-same set (0 + size_of (parts_of model config)) (size_of (parts_of model config)) (tree_clauses model.features ++ clauses_from (length set + 0) (parts_of model config)) Problem.clauses count
      (ap (λ k. tree_clauses model.features ++ clauses_from k (parts_of model config)) here) found in
      let whole_size = length-append set one.new in
      let new_size : length one.new ≡ size_of (parts_of model config) = one.sized in
      let roots : AreTrue (set ++ one.new) (map unit_of (roots_at Problem key)) =
      roots-truth (set ++ one.new) (truth set) Problem.roots (formulas_of config.requirements) (roots-say set one.new set_size one.true_there) key.members
      ∙ list_all-from_AllPass (truth set) (formulas_at config key.members) is.requirements in (
        set ++ one.new,
        record { sized = omega arith; satisfied = true-both (set ++ one.new) Problem.clauses (map unit_of (roots_at Problem key)) one.true_there roots },
        ap (λ k. take k (set ++ one.new)) (sym set_size) ∙ take-append_seam set one.new,
        (λ other assigned same_set.
            let joined_is : take n other ++ drop n other ≡ other = take-append-drop n other in
            let split : other ≡ set ++ drop n other = sym joined_is ∙ ap (λ front. front ++ drop n other) same_set in
            let size : length other ≡ variables_of model config = assigned.sized in
            let rest_size = length-drop n other in
            let both = true-parts other Problem.clauses (map unit_of (roots_at Problem key)) assigned.satisfied in
            let rest : drop n other ≡ one.new = one.only (drop n other) (omega arith) (subst (λ v. AreTrue v Problem.clauses) split both.0) in
            split ∙ ap (λ back. set ++ back) rest),
      )

pub assignments-products : AssignmentsAreProducts
assignments-products model config allowance rungs key values stated is = assignment-wanted model config allowance rungs stated key values is

pub products-assignments : ProductsAreAssignments
products-assignments model config allowance rungs key set stated is = wanted-assignment model config allowance rungs stated key set is

pub consistent-met : ConsistentIsMet
consistent-met model config allowance rungs key stated = (
  (λ consistent.
      let set = consistent.0 in
      let musts = All-append_left (Holds set) (formulas_of config.musts) (formulas_at config key.members) consistent.2 in
      let requirements = All-append_right (Holds set) (formulas_of config.musts) (formulas_at config key.members) consistent.2 in
      let found = wanted-assignment model config allowance rungs stated key set (record { product = consistent.1; musts = musts; requirements = requirements }) in
      (found.0, found.1.sized, found.1.satisfied)),
  (λ met.
      let values = met.0 in
      let wanted = assignment-wanted model config allowance rungs stated key values (record { sized = met.1; satisfied = met.2 }) in
      (features_in model values, wanted.product, All-append (Holds (features_in model values)) (formulas_of config.musts) (formulas_at config key.members) wanted.musts wanted.requirements)),
)
