-- The count of turns is enough.
use Rattle.std.proofs.Common.{◌≡◌, ◌∙◌, refl, sym, ap, subst, ⊎_elim, ℕ, zero, suc, ◌+◌, ◌-◌, ◌*◌, ◌<◌, ◌≤◌, Bool, true, false, not, ◌&&◌, ◌||◌, eqb, List, [], ◌∷◌, ◌++◌, length, reverse, Some, arith, suc-mul}
use Rattle.std.specs.Prelude.{Contains}
use Rattle.std.specs.List.{list_any, range_with_len}
use Rattle.std.proofs.lemmas.Bool.{false≢true, cases_Bool, and_parts, eqb-true, eq-eqb}
use Rattle.std.proofs.lemmas.List.{length_push}
use Rattle.std.proofs.lemmas.List.FromFn.{length-range_with_len}
use Rattle.std.proofs.lemmas.List.Elements.{Contains-append_left, Contains-append_right}
use Rattle.clauses.specs.declared.literal.Lit.{Lit}
use Rattle.clauses.specs.Clause.{has, is_same, negation, positive_of, negative_of, literal_with, unit_of}
use Rattle.clauses.specs.Closure.{closure, is_forcing}
use Rattle.clauses.specs.Search.{SearchAnswer, Standing, Turn, GoesOn, Ends, under, all_with, some_without, needed_decisions, cut_after, open_variables, turn, answer_within, turn_count, start}
use Rattle.lists.proofs.Members.{first, any_from, any_at, to_map, from_filter}
use Rattle.clauses.proofs.Literals.{is_same-refl}
use Rattle.clauses.proofs.Counting.{fails, fails-most, fails-less}
use Rattle.clauses.proofs.LeastLaws.{closure-has}
use Rattle.clauses.proofs.TurnLaws.{IsTurn, answers, decides, refutes, gives_up, adds_clause, turn_is}

abbrev pub among : List ℕ → ℕ → Bool
among vars x = list_any (λ y. eqb y x) vars

pub among-from : (vars : List ℕ) (x : ℕ) → Contains vars x → among vars x ≡ true
among-from vars x m = any_from (λ y. eqb y x) vars x m (eq-eqb x x refl)

pub from_among : (vars : List ℕ) (x : ℕ) → among vars x ≡ true → Contains vars x
from_among vars x e = let a = any_at (λ y. eqb y x) vars e in subst (Contains vars) (eqb-true a.0 x a.2) a.1

-- a decision has the first value in the closure
pub decided-closed : (sign : Bool) (clauses : List (List Lit)) (s : Standing) (x : ℕ) → Contains s.decisions x → has (closure (under sign clauses s)) (literal_with sign x) ≡ true
decided-closed sign clauses s x m =
    closure-has (under sign clauses s) (unit_of (literal_with sign x)) (literal_with sign x)
    (Contains-append_right (clauses ++ s.learned) (all_with sign s.decisions) (unit_of (literal_with sign x)) (to_map (λ y. unit_of (literal_with sign y)) s.decisions x m))
    (first (literal_with sign x) [])
    (unit_forces (closure (under sign clauses s)) (literal_with sign x))
  where
    either_true : (b c : Bool) → b ≡ true → ((b || c) && true) ≡ true
    either_true true c e = refl
    either_true false c e = absurd (false≢true e)

    unit_forces : (set : List Lit) (l : Lit) → is_forcing set (unit_of l) l ≡ true
    unit_forces set l = either_true (is_same l l) (has set (negation l)) (is_same-refl l)

not_has : (b : Bool) → not b ≡ true → b ≡ false
not_has true e = absurd (false≢true e)
not_has false e = refl

-- an open variable has no literal in the set
pub open-parts : (v : ℕ) (set : List Lit) (x : ℕ) (xs : List ℕ) → open_variables v set ≡ x ∷ xs → Contains (range_with_len 0 v) x × (has set (positive_of x) ≡ false) × (has set (negative_of x) ≡ false)
open-parts v set x xs o =
    let of = from_filter (λ y. not (has set (positive_of y)) && not (has set (negative_of y))) (range_with_len 0 v) x (subst (λ ys. Contains ys x) (sym o) (first x xs)) in
    let both = and_parts (not (has set (positive_of x))) (not (has set (negative_of x))) of.1 in
    (of.0, not_has (has set (positive_of x)) both.0, not_has (has set (negative_of x)) both.1)

pub open-either : (sign : Bool) (set : List Lit) (x : ℕ) → has set (positive_of x) ≡ false → has set (negative_of x) ≡ false → has set (literal_with sign x) ≡ false
open-either true set x p n = p
open-either false set x p n = n

-- and was not decided
pub open-new : (sign : Bool) (clauses : List (List Lit)) (s : Standing) (v x : ℕ) (xs : List ℕ) → open_variables v (closure (under sign clauses s)) ≡ x ∷ xs → Contains s.decisions x → ⊥
open-new sign clauses s v x xs o m =
    let parts = open-parts v (closure (under sign clauses s)) x xs o in
    false≢true (sym (open-either sign (closure (under sign clauses s)) x parts.1 parts.2) ∙ decided-closed sign clauses s x m)

module _ (sign : Bool) (clauses : List (List Lit)) (v a : ℕ) where
  abbrev pub undecided : List ℕ → ℕ
  undecided vars = fails (among vars) (range_with_len 0 v)

  abbrev pub turns_left : Standing → ℕ
  turns_left s = ((a - length s.learned) * (v + 1) + undecided s.decisions) + 1

  undecided-most : (vars : List ℕ) → undecided vars ≤ v
  undecided-most vars = let size = length-range_with_len 0 v in let most = fails-most (among vars) (range_with_len 0 v) in omega arith

  not_among : (vars : List ℕ) (x : ℕ) → (Contains vars x → ⊥) → among vars x ≡ false
  not_among vars x f = ⊎_elim (λ (t : among vars x ≡ true). absurd (f (from_among vars x t))) (λ (e : among vars x ≡ false). e) (cases_Bool (among vars x))

  abbrev Less : Standing → Standing → Type 0
  Less s t = (length t.learned ≤ a) × (turns_left t < turns_left s)

  less : (s t : Standing) (r : Turn) → length s.learned ≤ a → r ≡ GoesOn t → IsTurn sign clauses v a s r → Less s t
  less s t r most e (answers c o q) = absurd (cc)
  less s t r most e (decides x xs c o q) =
      let same : (record s { decisions = s.decisions ++ x ∷ [] }) ≡ t = cc in
      let fewer : undecided (s.decisions ++ x ∷ []) < undecided s.decisions =
      fails-less (among s.decisions) (among (s.decisions ++ x ∷ []))
      (λ y h. among-from (s.decisions ++ x ∷ []) y (Contains-append_left s.decisions (x ∷ []) y (from_among s.decisions y h)))
      (range_with_len 0 v) x (open-parts v (closure (under sign clauses s)) x xs o).0
      (not_among s.decisions x (open-new sign clauses s v x xs o))
      (among-from (s.decisions ++ x ∷ []) x (Contains-append_right s.decisions (x ∷ []) x (first x []))) in
      subst (Less s) same (most, omega arith)
  less s t r most e (refutes c o q) = absurd (cc)
  less s t r most e (gives_up c x xs d o q) = absurd (cc)
  less s t r most e (adds_clause c x xs o n q) =
      let trimmed = needed_decisions sign (clauses ++ s.learned) s.decisions in
      let next : Standing = record { learned = s.learned ++ some_without sign trimmed ∷ []; decisions = cut_after s.decisions (reverse trimmed) } in
      let same : next ≡ t = cc in
      let longer : length (s.learned ++ some_without sign trimmed ∷ []) ≡ length s.learned + 1 = length_push s.learned (some_without sign trimmed) in
      let other : length s.learned ≡ a → ⊥ = λ h. false≢true (sym n ∙ eq-eqb (length s.learned) a h) in
      subst (Less s) same (after (length s.learned) (length (s.learned ++ some_without sign trimmed ∷ [])) (undecided s.decisions) (undecided (cut_after s.decisions (reverse trimmed))) longer most other (undecided-most (cut_after s.decisions (reverse trimmed))))
    where
      after : (l k d e : ℕ) → k ≡ l + 1 → l ≤ a → (l ≡ a → ⊥) → e ≤ v → (k ≤ a) × (((a - k) * (v + 1) + e) + 1 < ((a - l) * (v + 1) + d) + 1)
      after l k d e same most other few =
          let one : a - l ≡ suc (a - k) = omega arith in
          let product : (a - l) * (v + 1) ≡ (a - k) * (v + 1) + (v + 1) = ap (λ z. z * (v + 1)) one ∙ suc-mul (a - k) (v + 1) in
          (omega arith, omega arith)

  -- a turn that goes on leaves fewer
  pub fewer-left : (s t : Standing) → length s.learned ≤ a → turn sign clauses v a s ≡ GoesOn t → turns_left t < turns_left s
  fewer-left s t most e = (less s t (turn sign clauses v a s) most e (turn_is sign clauses v a s)).1

  abbrev Answered : ℕ → Standing → Type 0
  Answered n s = (answer : SearchAnswer) × (answer_within n sign clauses v a s ≡ Some answer)

  next_answers : (n : ℕ) (s : Standing) → length s.learned ≤ a → turns_left s ≤ suc n → ((t : Standing) → length t.learned ≤ a → turns_left t ≤ n → Answered n t)
      → (r : Turn) → IsTurn sign clauses v a s r → (answer : SearchAnswer) × (elim r [ GoesOn next ↦ answer_within n sign clauses v a next | Ends x ↦ Some x ] ≡ Some answer)
  next_answers n s most few rest (GoesOn t) is = let l = less s t (GoesOn t) most refl is in let shorter = l.1 in rest t l.0 (omega arith)
  next_answers n s most few rest (Ends x) is = (x, refl)

  pub answers-within : (n : ℕ) (s : Standing) → length s.learned ≤ a → turns_left s ≤ n → Answered n s
  answers-within zero s most few = absurd (omega arith)
  answers-within (suc n) s most few = next_answers n s most few (answers-within n) (turn sign clauses v a s) (turn_is sign clauses v a s)

  pub answers-in_count : (answer : SearchAnswer) × (answer_within (turn_count v a) sign clauses v a start ≡ Some answer)
  answers-in_count =
      let most : undecided start.decisions ≤ v = undecided-most start.decisions in
      let all : a - length start.learned ≡ a = omega arith in
      let left : (a - length start.learned) * (v + 1) ≡ a * (v + 1) = ap (λ z. z * (v + 1)) all in
      let product : suc a * (v + 1) ≡ a * (v + 1) + (v + 1) = suc-mul a (v + 1) in
      let one : a + 1 ≡ suc a = omega arith in
      let count : (a + 1) * (v + 1) ≡ a * (v + 1) + (v + 1) = ap (λ z. z * (v + 1)) one ∙ product in
      answers-within (turn_count v a) start (omega arith) (omega arith)
