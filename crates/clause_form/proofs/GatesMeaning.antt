-- What the gates of a formula mean: its literal is true exactly where the formula is, and the gates leave the features free.
use Rattle.std.proofs.Common.{◌≡◌, ◌∙◌, refl, ap, sym, ◌+◌, Bool, true, false, cond, not, ◌&&◌, ◌||◌, List, [], ◌∷◌, ◌++◌, map, length, get_or, All, arith}
use Rattle.std.specs.List.{list_all, list_any}
use Rattle.std.proofs.lemmas.Bool.{false≢true}
use Rattle.std.proofs.lemmas.List.{get_or_append_left, get_or-append-add}
use Rattle.std.proofs.lemmas.List.Elements.{All-head, All-tail}
use Rattle.std.proofs.lemmas.List.Folds.{list_all-append}
use Rattle.clauses.specs.declared.literal.Lit.{Lit}
use Rattle.clauses.specs.Clause.{is_true_in, is_satisfied, are_satisfied, negation, positive_of}
use Rattle.clauses.specs.Problem.{IsBelow}
use Rattle.feature_tree.specs.Truth.{agree}
use Rattle.clause_form.specs.Gates.{all_clauses, any_clauses, implies_clauses, same_clauses}

-- ---- literals

pub negation-truth : (values : List Bool) (one : Lit) → is_true_in values (negation one) ≡ not (is_true_in values one)
negation-truth values one = turned one.positive (get_or values one.var false) where
  turned : (sign value : Bool) → cond (not sign) value (not value) ≡ not (cond sign value (not value))
  turned true value = refl
  turned false true = refl
  turned false false = refl

pub literal-more : (values more : List Bool) (one : Lit) → IsBelow (length values) one → is_true_in (values ++ more) one ≡ is_true_in values one
literal-more values more one below = ap (λ value. cond one.positive value (not value)) (get_or_append_left values more false one.var below)

pub literals-more : (values more : List Bool) (literals : List Lit) → All (IsBelow (length values)) literals → map (is_true_in (values ++ more)) literals ≡ map (is_true_in values) literals
literals-more values more [] below = refl
literals-more values more (one ∷ literals) below =
    ap (λ b. b ∷ map (is_true_in (values ++ more)) literals) (literal-more values more one (All-head (IsBelow (length values)) one literals below))
    ∙ ap (λ bs. is_true_in values one ∷ bs) (literals-more values more literals (All-tail (IsBelow (length values)) one literals below))

-- the variable behind some values
pub next-value : (values : List Bool) (value : Bool) → is_true_in (values ++ value ∷ []) (positive_of (length values)) ≡ value
next-value values value =
    let place : length values ≡ length values + 0 = omega arith in
    ap (λ k. get_or (values ++ value ∷ []) k false) place ∙ get_or-append-add values (value ∷ []) 0 false

-- ---- the clauses of one gate

module _ (values : List Bool) where
  abbrev T : Lit → Bool
  T = is_true_in values

  or_true : (t : Bool) → true ≡ (t || true)
  or_true true = refl
  or_true false = refl

  or_pair : (t a b : Bool) → ((t || (a || false)) && (t || b)) ≡ (t || (a && b))
  or_pair true a b = refl
  or_pair false true b = refl
  or_pair false false b = refl

  pub pairs-truth : (a : Lit) (f : Lit → Lit) (literals : List Lit) → are_satisfied values (map (λ one. a ∷ f one ∷ []) literals) ≡ (is_true_in values a || list_all (λ one. is_true_in values (f one)) literals)
  pairs-truth a f [] = or_true (is_true_in values a)
  pairs-truth a f (one ∷ literals) =
      ap (λ rest. (T a || (T (f one) || false)) && rest) (pairs-truth a f literals) ∙ or_pair (T a) (T (f one)) (list_all (λ o. T (f o)) literals)

  not_and : (a b : Bool) → (not a || not b) ≡ not (a && b)
  not_and true b = refl
  not_and false b = refl

  not_or : (a b : Bool) → (not a && not b) ≡ not (a || b)
  not_or true b = refl
  not_or false b = refl

  any-negations : (literals : List Lit) → list_any (is_true_in values) (map negation literals) ≡ not (list_all (is_true_in values) literals)
  any-negations [] = refl
  any-negations (one ∷ literals) =
      ap (λ t. t || list_any T (map negation literals)) (negation-truth values one) ∙ ap (λ rest. not (T one) || rest) (any-negations literals) ∙ not_and (T one) (list_all T literals)

  all-negations : (literals : List Lit) → list_all (λ one. is_true_in values (negation one)) literals ≡ not (list_any (is_true_in values) literals)
  all-negations [] = refl
  all-negations (one ∷ literals) =
      ap (λ t. t && list_all (λ o. T (negation o)) literals) (negation-truth values one) ∙ ap (λ rest. not (T one) && rest) (all-negations literals) ∙ not_or (T one) (list_any T literals)

  both_ways : (g m : Bool) → ((not g || m) && ((g || not m) && true)) ≡ cond g m (not m)
  both_ways true true = refl
  both_ways true false = refl
  both_ways false true = refl
  both_ways false false = refl

  both_ways-turned : (g m : Bool) → ((g || not m) && ((not g || m) && true)) ≡ cond g m (not m)
  both_ways-turned true true = refl
  both_ways-turned true false = refl
  both_ways-turned false true = refl
  both_ways-turned false false = refl

  pub all-truth : (g : Lit) (literals : List Lit) → are_satisfied values (all_clauses g literals) ≡ cond (is_true_in values g) (list_all (is_true_in values) literals) (not (list_all (is_true_in values) literals))
  all-truth g literals =
      let m = list_all (is_true_in values) literals in
      list_all-append (is_satisfied values) (map (λ one. negation g ∷ one ∷ []) literals) ((g ∷ map negation literals) ∷ [])
      ∙ ap (λ first. first && ((T g || list_any T (map negation literals)) && true)) (pairs-truth (negation g) (λ one. one) literals ∙ ap (λ t. t || m) (negation-truth values g))
      ∙ ap (λ last. (not (T g) || m) && ((T g || last) && true)) (any-negations literals)
      ∙ both_ways (T g) m

  pub any-truth : (g : Lit) (literals : List Lit) → are_satisfied values (any_clauses g literals) ≡ cond (is_true_in values g) (list_any (is_true_in values) literals) (not (list_any (is_true_in values) literals))
  any-truth g literals =
      let m = list_any (is_true_in values) literals in
      list_all-append (is_satisfied values) (map (λ one. g ∷ negation one ∷ []) literals) ((negation g ∷ literals) ∷ [])
      ∙ ap (λ first. first && ((T (negation g) || m) && true)) (pairs-truth g negation literals ∙ ap (λ t. T g || t) (all-negations literals))
      ∙ ap (λ t. (T g || not m) && ((t || m) && true)) (negation-truth values g)
      ∙ both_ways-turned (T g) m

  or_false : (x : Bool) → (x || false) ≡ x
  or_false true = refl
  or_false false = refl

  pub implies-truth : (g a b : Lit) → are_satisfied values (implies_clauses g a b) ≡ cond (is_true_in values g) (not (is_true_in values a) || is_true_in values b) (not (not (is_true_in values a) || is_true_in values b))
  implies-truth g a b =
      any-truth g (negation a ∷ b ∷ [])
      ∙ ap (λ m. cond (T g) m (not m)) (ap (λ t. t || (T b || false)) (negation-truth values a) ∙ ap (λ t. not (T a) || t) (or_false (T b)))

  four : (g a b : Bool) → ((not g || (not a || (b || false))) && ((not g || (a || (not b || false))) && ((g || (a || (b || false))) && ((g || (not a || (not b || false))) && true)))) ≡ cond g (agree a b) (not (agree a b))
  four true true true = refl
  four true true false = refl
  four true false true = refl
  four true false false = refl
  four false true true = refl
  four false true false = refl
  four false false true = refl
  four false false false = refl

  pub same-truth : (g a b : Lit) → are_satisfied values (same_clauses g a b) ≡ cond (is_true_in values g) (agree (is_true_in values a) (is_true_in values b)) (not (agree (is_true_in values a) (is_true_in values b)))
  same-truth g a b =
      (λ i. (negation-truth values g i || (negation-truth values a i || (T b || false))) && ((negation-truth values g i || (T a || (negation-truth values b i || false))) && ((T g || (T a || (T b || false))) && ((T g || (negation-truth values a i || (negation-truth values b i || false))) && true))))
      ∙ four (T g) (T a) (T b)

  pub gate-fixed : (g m : Bool) → cond g m (not m) ≡ true → g ≡ m
  gate-fixed true m e = sym e
  gate-fixed false true e = absurd (false≢true e)
  gate-fixed false false e = refl

  pub gate-holds : (m : Bool) → cond m m (not m) ≡ true
  gate-holds true = refl
  gate-holds false = refl
