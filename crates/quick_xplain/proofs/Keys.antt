-- The keys that are made: the members below a place, and a conflict with one more position below it.
use Rattle.std.specs.Prelude.{◌==◌}
use Rattle.std.proofs.Common.{◌≡◌, ℕ, zero, suc, ◌+◌, ◌<◌, ◌≤◌, ◌-◌, ◌||◌, ◌&&◌, not, Bool, true, false, List, ◌∷◌, ◌++◌, ◌⊎◌, inl, inr, ltb, length, take, drop, refl, sym, ◌∙◌, ap, subst, ⊎_elim, arith}
use Rattle.std.specs.List.{range_with_len}
use Rattle.std.specs.Prelude.{Some, slice_get}
use Rattle.std.proofs.Math.Seq.{drop-cons}
use Rattle.std.proofs.lemmas.Bool.{cases_eq, cases_Bool, ltb-true, ltb-false}
use Rattle.std.proofs.lemmas.List.{take-append-drop}
use Rattle.std.proofs.lemmas.List.Folds.{list_any-append}
use Rattle.std.proofs.lemmas.Option.{get_or_from_slice_get}
use Rattle.req_keys.specs.Key.{PositionSet, key_with, difference_of}
use Rattle.req_keys.specs.Positions.{RiseWithin, has, positions_where}
use Rattle.req_keys.specs.Wanting.{key_over}
use Rattle.req_keys.proofs.PositionsLaws.{filter-range_agree, positions_where-has, has-first, has-other, has-low, has-high, RiseWithin-range}
use Rattle.quick_xplain.proofs.Rising.{before_number, RiseWithin-first, RiseWithin-last}

or-swap : (a b : Bool) → (a || b) ≡ (b || a)
or-swap true true = refl
or-swap true false = refl
or-swap false true = refl
or-swap false false = refl

and-none : (a : Bool) → (a && false) ≡ false
and-none true = refl
and-none false = refl

and-all : (a : Bool) → (a && true) ≡ a
and-all true = refl
and-all false = refl

-- a position below all others
pub key_with-first : (n x : ℕ) (key : PositionSet) → key.n ≡ n → RiseWithin 0 n (x ∷ key.members) → key_with key x ≡ key_over n (x ∷ key.members)
key_with-first n x key e h =
    rw e (ap (key_over n)
    (filter-range_agree (λ i. has key.members i || x == i) (has (x ∷ key.members)) 1 n (λ i l u. or-swap (has key.members i) (x == i))
    ∙ positions_where-has n 0 (x ∷ key.members) h))

has-range : (a m i : ℕ) → a ≤ i → i < a + m → has (range_with_len a m) i ≡ true
has-range a zero i l u = absurd (omega arith)
has-range a (suc m) i l u =
    ⊎_elim
    (λ (same : a ≡ i). ap (has (a ∷ range_with_len (a + 1) m)) (sym same) ∙ has-first a (range_with_len (a + 1) m))
    (λ (other : a ≡ i → ⊥). has-other a (range_with_len (a + 1) m) i other ∙ has-range (a + 1) m i (omega arith) (omega arith))
    (cases_eq a i)

-- a position is below another, or not
split : (i x : ℕ) → (i < x) ⊎ (x ≤ i)
split i x = ⊎_elim (λ (below : ltb i x ≡ true). inl (ltb-true i x below)) (λ (above : ltb i x ≡ false). inr (ltb-false i x above)) (cases_Bool (ltb i x))

-- of a rising list the numbers before one of them are those that aren't from it on
module _ (n x : ℕ) (a b : List ℕ) (h : RiseWithin 0 n (a ++ x ∷ b)) where
  facts : (0 < x) × (x ≤ n) × RiseWithin 0 (x - 1) a
  facts = before_number 0 n x a b h

  from_on : RiseWithin 0 n (x ∷ b)
  from_on = RiseWithin-last 0 n a (x ∷ b) h

  agree : (i : ℕ) → 1 ≤ i → i < 1 + n → (has (a ++ x ∷ b) i && not (has (range_with_len ((x - 1) + 1) (n - (x - 1))) i)) ≡ has a i
  agree i l u =
      let some : 0 < x = facts.0 in
      let most : x ≤ n = facts.1 in
      let first : (x - 1) + 1 ≡ x = omega arith in
      ⊎_elim
      (λ (below : i < x).
      let none : has (x ∷ b) i ≡ false = has-other x b i (λ e. omega arith) ∙ has-low x n b i from_on.2 (omega arith) in
      let out : has (range_with_len ((x - 1) + 1) (n - (x - 1))) i ≡ false = has-low (x - 1) n (range_with_len ((x - 1) + 1) (n - (x - 1))) i (RiseWithin-range ((x - 1) + 1) (n - (x - 1)) (x - 1) n (omega arith) (omega arith)) (omega arith) in
      ap (λ t. has (a ++ x ∷ b) i && not t) out ∙ and-all (has (a ++ x ∷ b) i)
      ∙ list_any-append _ a (x ∷ b) ∙ ap (λ t. has a i || t) none ∙ or-swap (has a i) false)
      (λ (above : x ≤ i).
      let inside : has (range_with_len ((x - 1) + 1) (n - (x - 1))) i ≡ true = has-range ((x - 1) + 1) (n - (x - 1)) i (omega arith) (omega arith) in
      ap (λ t. has (a ++ x ∷ b) i && not t) inside ∙ and-none (has (a ++ x ∷ b) i) ∙ sym (has-high 0 (x - 1) a i facts.2 (omega arith)))
      (split i x)

  before-same : positions_where n (λ i. has (a ++ x ∷ b) i && not (has (range_with_len ((x - 1) + 1) (n - (x - 1))) i)) ≡ a
  before-same =
      filter-range_agree (λ i. has (a ++ x ∷ b) i && not (has (range_with_len ((x - 1) + 1) (n - (x - 1))) i)) (has a) 1 n agree
      ∙ positions_where-has n 0 a (RiseWithin-first 0 n a (x ∷ b) h)

-- a member, between those at the places before and behind it
pub around_place : (members : List ℕ) (place x : ℕ) → place < length members → slice_get members place ≡ Some x → members ≡ take place members ++ x ∷ drop (suc place) members
around_place members place x l e =
    sym (take-append-drop place members)
    ∙ ap (λ (t : List ℕ). take place members ++ t) (drop-cons members place x l)
    ∙ ap (λ (y : ℕ). take place members ++ y ∷ drop (suc place) members) (get_or_from_slice_get members place x x e)

-- a member of the start set is one of its positions
pub place-within : (n : ℕ) (members : List ℕ) (place x : ℕ) → RiseWithin 0 n members → place < length members → slice_get members place ≡ Some x → (0 < x) × (x ≤ n)
place-within n members place x h l e =
    let all = before_number 0 n x (take place members) (drop (suc place) members) (subst (RiseWithin 0 n) (around_place members place x l e) h) in
    (all.0, all.1)

-- the members below a place
pub below_place : (n : ℕ) (set : PositionSet) (place x : ℕ) → set.n ≡ n → RiseWithin 0 n set.members → place < length set.members → slice_get set.members place ≡ Some x →
    difference_of set (key_over n (range_with_len ((x - 1) + 1) (n - (x - 1)))) ≡ key_over n (take place set.members)
below_place n set place x e h l s =
    let around : set.members ≡ take place set.members ++ x ∷ drop (suc place) set.members = around_place set.members place x l s in
    rw e (ap (key_over n)
    (ap (λ (t : List ℕ). positions_where n (λ i. has t i && not (has (range_with_len ((x - 1) + 1) (n - (x - 1))) i))) around
    ∙ before-same n x (take place set.members) (drop (suc place) set.members) (subst (RiseWithin 0 n) around h)))
