-- Ascending lists of positions, their unions and their halves.
use Rattle.std.proofs.Common.{◌≡◌, ℕ, zero, suc, ◌+◌, ◌<◌, ◌≤◌, ◌-◌, ◌/◌, min, true, false, eqb, ltb, List, [], ◌∷◌, ◌++◌, ◌⊎◌, length, get_or, refl, ◌∙◌, ⊎_elim, arith, add-one}
use Rattle.std.specs.Prelude.{Contains}
use Rattle.std.specs.List.{AllPairs}
use Rattle.std.specs.List.Sorted.{IsStrictlyIncreasing}
use Rattle.std.proofs.lemmas.List.{take-append-drop, length-take, length-drop}
use Rattle.std.proofs.lemmas.List.Kept.{AllPairs-from_increasing}
use Rattle.std.proofs.lemmas.List.Elements.{Contains-append_left, Contains-append_right, Contains-append_cases}
use Rattle.std.proofs.lemmas.Bool.{cases_Bool, eqb-true, eqb-false, ltb-true, ltb-false, lt-ltb}
use Rattle.pref_sets.specs.Positions.{with_position, union, lower_half, upper_half}
use Rattle.pref_sets.specs.Preferred.{IsWithin, IsDistinct}
use Rattle.pref_sets.proofs.TrimmedBehind.{IsWithin-append}
use Rattle.lists.proofs.Members.{first as contains_first, later as contains_later, none as contains_none, first_or_later}

-- each position is below all later ones
abbrev pub Ascends : List ℕ → Type 0
Ascends [] = Unit {0}
Ascends (x ∷ xs) = ((y : ℕ) → Contains xs y → x < y) × Ascends xs

from_pairs : (xs : List ℕ) → AllPairs (λ x y. x < y) xs → Ascends xs
from_pairs [] h = tt
from_pairs (x ∷ xs) h = (
  (λ y m.
      let below : x < get_or xs m.0 y = h 0 (suc m.0) y (omega arith) (let l : m.0 < length xs = m.1 in omega arith) in
      rw m.2 at below),
  from_pairs xs (λ i j d l r. h (suc i) (suc j) d (omega arith) (omega arith)),
)

pub Ascends-from_increasing : (xs : List ℕ) → IsStrictlyIncreasing xs → Ascends xs
Ascends-from_increasing xs h = from_pairs xs (AllPairs-from_increasing xs h)

next_above : (xs : List ℕ) → Ascends xs → (k : ℕ) → suc k < length xs → get_or xs k 0 < get_or xs (suc k) 0
next_above [] h k l = absurd (omega arith)
next_above (x ∷ []) h k l = absurd (omega arith)
next_above (x ∷ y ∷ xs) h zero l = h.0 y (contains_first y xs)
next_above (x ∷ y ∷ xs) h (suc k) l = next_above (y ∷ xs) h.1 k (omega arith)

pub IsStrictlyIncreasing-from_Ascends : (xs : List ℕ) → Ascends xs → IsStrictlyIncreasing xs
IsStrictlyIncreasing-from_Ascends xs h k l = rw add-one (next_above xs h k (omega arith))

pub IsDistinct-from_Ascends : (xs : List ℕ) → Ascends xs → IsDistinct xs
IsDistinct-from_Ascends [] h = tt
IsDistinct-from_Ascends (x ∷ xs) h = ((λ m. let below : x < x = h.0 x m in omega arith), IsDistinct-from_Ascends xs h.1)

-- each position of the one list is below each of the other
abbrev pub AreBelow : List ℕ → List ℕ → Type 0
AreBelow a b = (x y : ℕ) → Contains a x → Contains b y → x < y

pub Ascends-apart : (a b : List ℕ) → Ascends (a ++ b) → Ascends a × Ascends b × AreBelow a b
Ascends-apart [] b h = (tt, h, λ x y m n. absurd (contains_none x m))
Ascends-apart (z ∷ a) b h =
    let r : Ascends a × Ascends b × AreBelow a b = Ascends-apart a b h.1 in (
      ((λ y m. h.0 y (Contains-append_left a b y m)), r.0),
      r.1,
      (λ x y m n. ⊎_elim (λ (same : z ≡ x). rw (← same) (h.0 y (Contains-append_right a b y n))) (λ (later : Contains a x). r.2 x y later n) (first_or_later z a x m)),
    )

-- ascending lists with the same members are one
pub Ascends-same : (a b : List ℕ) → Ascends a → Ascends b → IsWithin a b → IsWithin b a → a ≡ b
Ascends-same [] [] h k there back = refl
Ascends-same [] (y ∷ b) h k there back = absurd (contains_none y (back y (contains_first y b)))
Ascends-same (x ∷ a) [] h k there back = absurd (contains_none x (there x (contains_first x a)))
Ascends-same (x ∷ a) (y ∷ b) h k there back =
    let x_high : y ≤ x = ⊎_elim (λ (e : y ≡ x). omega arith) (λ (m : Contains b x). let above : y < x = k.0 x m in omega arith) (first_or_later y b x (there x (contains_first x a))) in
    let y_high : x ≤ y = ⊎_elim (λ (e : x ≡ y). omega arith) (λ (m : Contains a y). let above : x < y = h.0 y m in omega arith) (first_or_later x a y (back y (contains_first y b))) in
    let same : x ≡ y = omega arith in
    let rest : a ≡ b =
    Ascends-same a b h.1 k.1
    (λ i m. ⊎_elim (λ (e : y ≡ i). let above : x < i = h.0 i m in absurd (omega arith)) (λ (l : Contains b i). l) (first_or_later y b i (there i (contains_later x a i m))))
    (λ i m. ⊎_elim (λ (e : x ≡ i). let above : y < i = k.0 i m in absurd (omega arith)) (λ (l : Contains a i). l) (first_or_later x a i (back i (contains_later y b i m)))) in
    cc

-- no position is in both lists
abbrev pub AreApart : List ℕ → List ℕ → Type 0
AreApart a b = (i : ℕ) → Contains a i → Contains b i → ⊥

pub apart-below : (a b : List ℕ) → AreBelow a b → AreApart a b
apart-below a b below i m n = let less : i < i = below i i m n in omega arith

pub member-of_some : (xs : List ℕ) → 0 < length xs → (x : ℕ) × Contains xs x
member-of_some [] l = absurd (omega arith)
member-of_some (x ∷ xs) l = (x, contains_first x xs)

-- a list with one more member
with_position-cases : (p : ℕ) (set : List ℕ) (i : ℕ) → Contains (with_position p set) i → Contains (p ∷ set) i
with_position-cases p [] i m = m
with_position-cases p (x ∷ set) i m =
    ⊎_elim
    (λ (below : ltb p x ≡ true). rw below at m)
    (λ (above : ltb p x ≡ false).
    ⊎_elim
    (λ (same : eqb p x ≡ true). let there : Contains (x ∷ set) i = rw (above, same) at m in contains_later p (x ∷ set) i there)
    (λ (other : eqb p x ≡ false).
    let there : Contains (x ∷ with_position p set) i = rw (above, other) at m in
    ⊎_elim
    (λ (first : x ≡ i). rw (← first) (contains_later p (x ∷ set) x (contains_first x set)))
    (λ (later : Contains (with_position p set) i).
    ⊎_elim (λ (is_p : p ≡ i). rw (← is_p) (contains_first p (x ∷ set))) (λ (old : Contains set i). contains_later p (x ∷ set) i (contains_later x set i old)) (first_or_later p set i (with_position-cases p set i later)))
    (first_or_later x (with_position p set) i there))
    (cases_Bool (eqb p x)))
    (cases_Bool (ltb p x))

with_position-has : (p : ℕ) (set : List ℕ) (i : ℕ) → Contains (p ∷ set) i → Contains (with_position p set) i
with_position-has p [] i m = m
with_position-has p (x ∷ set) i m =
    ⊎_elim
    (λ (below : ltb p x ≡ true). rw below m)
    (λ (above : ltb p x ≡ false).
    ⊎_elim
    (λ (same : eqb p x ≡ true).
    rw (above, same)
    (⊎_elim (λ (is_p : p ≡ i). rw (← is_p, eqb-true p x same) (contains_first x set)) (λ (old : Contains (x ∷ set) i). old) (first_or_later p (x ∷ set) i m)))
    (λ (other : eqb p x ≡ false).
    rw (above, other)
    (⊎_elim
    (λ (is_p : p ≡ i). contains_later x (with_position p set) i (with_position-has p set i (rw (← is_p) (contains_first p set))))
    (λ (old : Contains (x ∷ set) i).
    ⊎_elim (λ (first : x ≡ i). rw (← first) (contains_first x (with_position p set))) (λ (later : Contains set i). contains_later x (with_position p set) i (with_position-has p set i (contains_later p set i later))) (first_or_later x set i old))
    (first_or_later p (x ∷ set) i m)))
    (cases_Bool (eqb p x)))
    (cases_Bool (ltb p x))

with_position-ascends : (p : ℕ) (set : List ℕ) → Ascends set → Ascends (with_position p set)
with_position-ascends p [] h = ((λ y m. absurd (contains_none y m)), tt)
with_position-ascends p (x ∷ set) h =
    ⊎_elim
    (λ (below : ltb p x ≡ true).
    let first : p < x = ltb-true p x below in
    let all : (y : ℕ) → Contains (x ∷ set) y → p < y = λ y m. ⊎_elim (λ (same : x ≡ y). rw (← same) first) (λ (later : Contains set y). let above : x < y = h.0 y later in omega arith) (first_or_later x set y m) in
    rw below (all, h))
    (λ (above : ltb p x ≡ false).
    ⊎_elim
    (λ (same : eqb p x ≡ true). rw (above, same) h)
    (λ (other : eqb p x ≡ false).
    let first : x ≤ p = ltb-false p x above in
    let differ : p ≡ x → ⊥ = λ e. eqb-false p x other e in
    let beyond : x < p = omega (arith, differ) in
    let all : (y : ℕ) → Contains (with_position p set) y → x < y = λ y m. ⊎_elim (λ (is_p : p ≡ y). rw (← is_p) beyond) (λ (old : Contains set y). h.0 y old) (first_or_later p set y (with_position-cases p set y m)) in
    rw (above, other) (all, with_position-ascends p set h.1))
    (cases_Bool (eqb p x)))
    (cases_Bool (ltb p x))

-- a list whose first member is below all others
with_position-first : (p : ℕ) (set : List ℕ) → ((y : ℕ) → Contains set y → p < y) → with_position p set ≡ p ∷ set
with_position-first p [] h = refl
with_position-first p (x ∷ set) h = rw (lt-ltb p x (h x (contains_first x set))) refl

pub union-within : (a b : List ℕ) → IsWithin (union a b) (a ++ b)
union-within [] b i m = m
union-within (p ∷ a) b i m =
    ⊎_elim
    (λ (is_p : p ≡ i). rw (← is_p) (contains_first p (a ++ b)))
    (λ (later : Contains (union a b) i). contains_later p (a ++ b) i (union-within a b i later))
    (first_or_later p (union a b) i (with_position-cases p (union a b) i m))

pub union-has : (a b : List ℕ) → IsWithin (a ++ b) (union a b)
union-has [] b i m = m
union-has (p ∷ a) b i m =
    with_position-has p (union a b) i
    (⊎_elim (λ (is_p : p ≡ i). rw (← is_p) (contains_first p (union a b))) (λ (later : Contains (a ++ b) i). contains_later p (union a b) i (union-has a b i later)) (first_or_later p (a ++ b) i m))

pub union-cases : (a b : List ℕ) (i : ℕ) → Contains (union a b) i → Contains a i ⊎ Contains b i
union-cases a b i m = Contains-append_cases a b i (union-within a b i m)

pub union-all : (a b all : List ℕ) → IsWithin a all → IsWithin b all → IsWithin (union a b) all
union-all a b all h k i m = ⊎_elim (λ (l : Contains a i). h i l) (λ (r : Contains b i). k i r) (Contains-append_cases a b i (union-within a b i m))

-- a set and a list have the same members
abbrev pub HaveSame : List ℕ → List ℕ → Type 0
HaveSame set list = IsWithin set list × IsWithin list set

pub union-same : (set list more : List ℕ) → HaveSame set list → HaveSame (union set more) (list ++ more)
union-same set list more same = (
  (λ i m. IsWithin-append set more list more same.0 (λ j n. n) i (union-within set more i m)),
  (λ i m. union-has set more i (IsWithin-append list more set more same.1 (λ j n. n) i m)),
)

pub union-ascends : (a b : List ℕ) → Ascends b → Ascends (union a b)
union-ascends [] b h = h
union-ascends (p ∷ a) b h = with_position-ascends p (union a b) (union-ascends a b h)

-- an ascending list below another stands before it
pub union-append : (a b : List ℕ) → Ascends a → AreBelow a b → union a b ≡ a ++ b
union-append [] b h below = refl
union-append (p ∷ a) b h below =
    let rest : union a b ≡ a ++ b = union-append a b h.1 (λ x y m n. below x y (contains_later p a x m) n) in
    let first : (y : ℕ) → Contains (a ++ b) y → p < y = λ y m. ⊎_elim (λ (l : Contains a y). h.0 y l) (λ (r : Contains b y). below p y (contains_first p a) r) (Contains-append_cases a b y m) in
    rw rest (with_position-first p (a ++ b) first)

pub halves-join : (xs : List ℕ) → lower_half xs ++ upper_half xs ≡ xs
halves-join xs = take-append-drop (length xs / 2) xs

min_half : (n : ℕ) → min (n / 2) n ≡ n / 2
min_half n = omega arith

-- each half of two or more positions has a member, and together they have all
pub halves-length : (xs : List ℕ) → 2 ≤ length xs → (0 < length (lower_half xs)) × (0 < length (upper_half xs)) × (length (lower_half xs) + length (upper_half xs) ≡ length xs)
halves-length xs l =
    let lower : length (lower_half xs) ≡ length xs / 2 = length-take (length xs / 2) xs ∙ min_half (length xs) in
    let upper : length (upper_half xs) ≡ length xs - length xs / 2 = length-drop (length xs / 2) xs in
    (omega arith, omega arith, omega arith)

pub lower-within : (xs : List ℕ) → IsWithin (lower_half xs) xs
lower-within xs i m = let there : Contains (lower_half xs ++ upper_half xs) i = Contains-append_left (lower_half xs) (upper_half xs) i m in rw (halves-join xs) at there

pub upper-within : (xs : List ℕ) → IsWithin (upper_half xs) xs
upper-within xs i m = let there : Contains (lower_half xs ++ upper_half xs) i = Contains-append_right (lower_half xs) (upper_half xs) i m in rw (halves-join xs) at there
