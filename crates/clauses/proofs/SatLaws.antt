-- Where a search ends with values, they satisfy the clauses.
use Rattle.std.proofs.Common.{◌≡◌, ◌∙◌, refl, ap, subst, ⊎_elim, ℕ, zero, suc, ◌+◌, ◌<◌, Bool, true, false, not, ◌&&◌, List, [], ◌++◌, map, length, get_or, arith}
use Rattle.std.specs.Prelude.{Contains, Some}
use Rattle.std.specs.List.{range_with_len}
use Rattle.std.proofs.lemmas.Bool.{cases_Bool, and_from, not_from_false}
use Rattle.std.proofs.lemmas.List.Elements.{Contains-append_left}
use Rattle.clauses.specs.declared.literal.Lit.{Lit}
use Rattle.clauses.specs.Clause.{has, negation, positive_of, negative_of, is_true_in, is_satisfied, are_satisfied}
use Rattle.clauses.specs.Closure.{closure, clash, is_refuted}
use Rattle.clauses.specs.Search.{Sat, Standing, Turn, Ends, under, all_with, open_variables, values_of, turn, answer_within, start}
use Rattle.clauses.proofs.TurnLaws.{IsTurn, answers, decides, refutes, gives_up, adds_clause, turn_is, ended}
use Rattle.lists.proofs.Members.{none, any_from, any_none, all_from, all_false, to_filter}
use Rattle.lists.proofs.Ranges.{range-has}

value_at : (f : ℕ → Bool) (a n k : ℕ) (d : Bool) → k < n → get_or (map f (range_with_len a n)) k d ≡ f (a + k)
value_at f a zero k d l = absurd (omega arith)
value_at f a (suc n) zero d l = let same : a ≡ a + 0 = omega arith in ap f same
value_at f a (suc n) (suc k) d l = let same : (a + 1) + k ≡ a + suc k = omega arith in value_at f (a + 1) n k d (omega arith) ∙ ap f same

pub length-values_of : (v : ℕ) (set : List Lit) → length (values_of v set) ≡ v
length-values_of v set = sized (λ variable. has set (positive_of variable)) 0 v
  where
    sized : (f : ℕ → Bool) (a n : ℕ) → length (map f (range_with_len a n)) ≡ n
    sized f a zero = refl
    sized f a (suc n) = ap suc (sized f (a + 1) n)

module _ (v : ℕ) (set : List Lit) (closed : open_variables v set ≡ []) where
  some_sign : (x : ℕ) → x < v → has set (negative_of x) ≡ false → has set (positive_of x) ≡ true
  some_sign x l n =
      ⊎_elim
      (λ (t : has set (positive_of x) ≡ true). t)
      (λ (f : has set (positive_of x) ≡ false).
      let test = λ (y : ℕ). not (has set (positive_of y)) && not (has set (negative_of y)) in
      absurd (none x (subst (λ xs. Contains xs x) closed (to_filter test (range_with_len 0 v) x (range-has v x l) (and_from (not (has set (positive_of x))) (not (has set (negative_of x))) (not_from_false (has set (positive_of x)) f) (not_from_false (has set (negative_of x)) n))))))
      (cases_Bool (has set (positive_of x)))

  true_at : (x : ℕ) (sign : Bool) → x < v → has set (record { var = x; positive = not sign }) ≡ false → is_true_in (values_of v set) (record { var = x; positive = sign }) ≡ true
  true_at x true l n = value_at (λ y. has set (positive_of y)) 0 v x false l ∙ (let same : 0 + x ≡ x = omega arith in ap (λ y. has set (positive_of y)) same ∙ some_sign x l n)
  true_at x false l n = ap not (value_at (λ y. has set (positive_of y)) 0 v x false l ∙ (let same : 0 + x ≡ x = omega arith in ap (λ y. has set (positive_of y)) same ∙ n))

  pub true_where : (l : Lit) → l.var < v → has set (negation l) ≡ false → is_true_in (values_of v set) l ≡ true
  true_where l below n = true_at l.var l.positive below n

-- at rest with no variable open
pub rest-satisfies : (clauses whole : List (List Lit)) (v : ℕ) → ((clause : List Lit) → Contains clauses clause → Contains whole clause)
    → ((clause : List Lit) → Contains clauses clause → (l : Lit) → Contains clause l → l.var < v)
    → clash whole ≡ false → open_variables v (closure whole) ≡ [] → are_satisfied (values_of v (closure whole)) clauses ≡ true
rest-satisfies clauses whole v within below no_clash closed =
    all_from (is_satisfied (values_of v (closure whole))) clauses (λ clause m.
    let stands = any_none (is_refuted (closure whole)) whole clause no_clash (within clause m) in
    let l = all_false (λ l. has (closure whole) (negation l)) clause stands in
    any_from (is_true_in (values_of v (closure whole))) clause l.0 l.1 (true_where v (closure whole) closed l.0 (below clause m l.0 l.1) l.2))

module _ (sign : Bool) (clauses : List (List Lit)) (v a : ℕ) (below : (clause : List Lit) → Contains clauses clause → (l : Lit) → Contains clause l → l.var < v) where
  abbrev Holds : List Bool → Type 0
  Holds values = (length values ≡ v) × (are_satisfied values clauses ≡ true)

  answered : (s : Standing) (values : List Bool) (r : Turn) → r ≡ Ends (Sat values) → IsTurn sign clauses v a s r → Holds values
  answered s values r e (answers c o q) =
      let same : values_of v (closure (under sign clauses s)) ≡ values = cc in
      subst Holds same (
        length-values_of v (closure (under sign clauses s)),
        rest-satisfies clauses (under sign clauses s) v (λ clause m. Contains-append_left (clauses ++ s.learned) (all_with sign s.decisions) clause (Contains-append_left clauses s.learned clause m)) below c o,
      )
  answered s values r e (decides x xs c o q) = absurd (cc)
  answered s values r e (refutes c o q) = absurd (cc)
  answered s values r e (gives_up c x xs d o q) = absurd (cc)
  answered s values r e (adds_clause c x xs o n q) = absurd (cc)

  pub sat-satisfies : (n : ℕ) (values : List Bool) → answer_within n sign clauses v a start ≡ Some (Sat values) → Holds values
  sat-satisfies n values e =
      let at = ended sign clauses v a (λ s. Unit {0}) (λ s t p f. tt) (Sat values) n start tt e in
      answered at.0 values (turn sign clauses v a at.0) at.2 (turn_is sign clauses v a at.0)
