-- Sets of features, and what they make true.
use Rattle.std.proofs.Common.{◌≡◌, ◌∙◌, refl, sym, ap, ⊎_elim, ℕ, zero, suc, ◌+◌, ◌-◌, ◌<◌, ◌≤◌, Bool, true, false, ◌&&◌, ◌||◌, List, [], ◌∷◌, ◌++◌, length, map, cond, get_or, take, drop, replicate, Some, None, arith}
use Rattle.std.specs.Prelude.{◌≢◌, ◌==◌, Option, filter_map, slice_get, slice_set}
use Rattle.std.specs.List.{list_all, range_with_len, cons_option}
use Rattle.std.proofs.lemmas.Bool.{cases_Bool}
use Rattle.std.proofs.lemmas.Bool.Decides.{nat_tests}
use Rattle.std.proofs.lemmas.List.{length-replicate, take_more, take-append-drop}
use Rattle.std.proofs.lemmas.List.Elements.{filter_map-append}
use Rattle.std.proofs.lemmas.List.Folds.{list_all-append, list_all_more, list_any-append}
use Rattle.req_keys.specs.Positions.{RiseWithin, has}
use Rattle.req_keys.proofs.Rises.{members-within}
use Rattle.certificate.specs.Words.{list_in, set_of}
use Rattle.certificate.proofs.Soundness.{list_in-rising}

-- ---- sets

map-same : (m a : ℕ) (f g : ℕ → Bool) → ((j : ℕ) → a ≤ j → f j ≡ g j) → map f (range_with_len a m) ≡ map g (range_with_len a m)
map-same zero a f g h = refl
map-same (suc m) a f g h = ap (λ b. b ∷ map f (range_with_len (a + 1) m)) (h a (omega arith)) ∙ ap (λ bs. g a ∷ bs) (map-same m (a + 1) f g (λ j l. h j (omega arith)))

set-range : (m k a : ℕ) (f g : ℕ → Bool) → k < m → g (a + k) ≡ true → ((j : ℕ) → a ≤ j → j ≢ a + k → f j ≡ g j) → slice_set (map f (range_with_len a m)) k true ≡ map g (range_with_len a m)
set-range zero k a f g l t h = absurd (omega arith)
set-range (suc m) zero a f g l t h =
    let here : a + 0 ≡ a = omega arith in
    ap (λ b. b ∷ map f (range_with_len (a + 1) m)) (sym t ∙ ap g here) ∙ ap (λ bs. g a ∷ bs) (map-same m (a + 1) f g (λ j n. h j (omega arith) (λ e. omega arith)))
set-range (suc m) (suc k) a f g l t h =
    let there : a + suc k ≡ (a + 1) + k = omega arith in
    ap (λ b. b ∷ slice_set (map f (range_with_len (a + 1) m)) k true) (h a (omega arith) (λ e. omega arith))
    ∙ ap (λ bs. g a ∷ bs) (set-range m k (a + 1) f g (omega arith) (sym (ap g there) ∙ t) (λ j n d. h j (omega arith) (λ e. d (e ∙ there))))

or_true : (a b : Bool) → b ≡ true → (a || (b || false)) ≡ true
or_true true b e = refl
or_true false true e = refl
or_true false false e = absurd (cc)

or_false : (a b : Bool) → b ≡ false → a ≡ (a || (b || false))
or_false true b e = refl
or_false false true e = absurd (cc)
or_false false false e = refl

not_same : (x y : ℕ) → (x ≡ y → ⊥) → (x == y) ≡ false
not_same x y d = ⊎_elim (λ (t : (x == y) ≡ true). absurd (d (grind (arith, nat_tests)))) (λ (f : (x == y) ≡ false). f) (cases_Bool (x == y))

pub set_of-push : (count number : ℕ) (numbers : List ℕ) → 1 ≤ number → number ≤ count → slice_set (set_of count numbers) (number - 1) true ≡ set_of count (numbers ++ number ∷ [])
set_of-push count number numbers low high =
    let place : 1 + (number - 1) ≡ number = omega arith in
    set-range count (number - 1) 1 (has numbers) (has (numbers ++ number ∷ [])) (omega arith)
    (ap (has (numbers ++ number ∷ [])) place ∙ list_any-append (λ member. member == number) numbers (number ∷ []) ∙ or_true (has numbers number) (number == number) (grind (arith, nat_tests)))
    (λ j l d.
    let other : (number == j) ≡ false = not_same number j (λ e. d (sym e ∙ sym place)) in
    or_false (has numbers j) (number == j) other ∙ sym (list_any-append (λ member. member == j) numbers (number ∷ [])))

pub set_of-none : (count a : ℕ) → replicate count false ≡ map (has []) (range_with_len a count)
set_of-none zero a = refl
set_of-none (suc count) a = ap (λ bs. false ∷ bs) (set_of-none count (a + 1))

-- ---- members of a list of positions

get_same : (xs : List ℕ) (i d e : ℕ) → i < length xs → get_or xs i d ≡ get_or xs i e
get_same [] i d e l = absurd (omega arith)
get_same (x ∷ xs) zero d e l = refl
get_same (x ∷ xs) (suc i) d e l = get_same xs i d e (omega arith)

pub position-within : (low high : ℕ) (xs : List ℕ) → RiseWithin low high xs → (i : ℕ) → i < length xs → (low < get_or xs i 0) × (get_or xs i 0 ≤ high)
position-within low high xs rise i l = members-within low high xs rise (get_or xs i 0) (i, l, get_same xs i (get_or xs i 0) 0 l)

-- ---- what a set makes true

and_one : (b : Bool) → (b && true) ≡ b
and_one true = refl
and_one false = refl

both_true : (a b : Bool) → a ≡ true → b ≡ true → (a && b) ≡ true
both_true true b p q = q
both_true false b p q = absurd (cc)

ends_false : (a b c : Bool) → b ≡ false → ((a && b) && c) ≡ false
ends_false true b c e = ap (λ x. x && c) e
ends_false false b c e = refl

pub slice_get-map : {X Y : Type 0} (f : X → Y) (xs : List X) (i : ℕ) (x : X) → slice_get xs i ≡ Some x → slice_get (map f xs) i ≡ Some (f x)
slice_get-map f [] i x e = absurd (cc)
slice_get-map f (y ∷ ys) zero x e = let same : y ≡ x = cc in ap (λ z. Some (f z)) same
slice_get-map f (y ∷ ys) (suc i) x e = slice_get-map f ys i x e

pub list_all-map : {X Y : Type 0} (f : X → Y) (p : Y → Bool) (xs : List X) → list_all p (map f xs) ≡ list_all (λ x. p (f x)) xs
list_all-map f p [] = refl
list_all-map f p (x ∷ xs) = ap (λ b. p (f x) && b) (list_all-map f p xs)

module _ {X : Type 0} (test : X → Bool) (pick : ℕ → Option X) (positions : List ℕ) (i : ℕ) (inside : i < length positions) (item : X) (picked : pick (get_or positions i 0) ≡ Some item) where
  step : list_all test (filter_map pick (take (i + 1) positions)) ≡ (list_all test (filter_map pick (take i positions)) && test item)
  step =
      ap (λ ps. list_all test (filter_map pick ps)) (take_more positions i 0 inside)
      ∙ ap (list_all test) (filter_map-append pick (take i positions) (get_or positions i 0 ∷ []))
      ∙ list_all-append test (filter_map pick (take i positions)) (cons_option (pick (get_or positions i 0)) [])
      ∙ ap (λ o. list_all test (filter_map pick (take i positions)) && list_all test (cons_option o [])) picked
      ∙ ap (λ b. list_all test (filter_map pick (take i positions)) && b) (and_one (test item))

  pub picked-true : list_all test (filter_map pick (take i positions)) ≡ true → test item ≡ true → list_all test (filter_map pick (take (i + 1) positions)) ≡ true
  picked-true p q = step ∙ both_true (list_all test (filter_map pick (take i positions))) (test item) p q

  pub picked-false : test item ≡ false → list_all test (filter_map pick positions) ≡ false
  picked-false q =
      ap (λ ps. list_all test (filter_map pick ps)) (sym (take-append-drop (i + 1) positions))
      ∙ ap (list_all test) (filter_map-append pick (take (i + 1) positions) (drop (i + 1) positions))
      ∙ list_all-append test (filter_map pick (take (i + 1) positions)) (filter_map pick (drop (i + 1) positions))
      ∙ ap (λ b. b && list_all test (filter_map pick (drop (i + 1) positions))) step
      ∙ ends_false (list_all test (filter_map pick (take i positions))) (test item) (list_all test (filter_map pick (drop (i + 1) positions))) q

-- ---- all items

module _ {X : Type 0} (p : X → Bool) where
  and_false : (a b : Bool) → b ≡ false → (a && b) ≡ false
  and_false true b e = e
  and_false false b e = refl

  pub one-false : (xs : List X) (i : ℕ) (x : X) → i < length xs → x ≡ get_or xs i x → p x ≡ false → list_all p xs ≡ false
  one-false [] i x l e f = absurd (omega arith)
  one-false (y ∷ ys) zero x l e f = ap (λ b. b && list_all p ys) (sym (ap p e) ∙ f)
  one-false (y ∷ ys) (suc i) x l e f = and_false (p y) (list_all p ys) (one-false ys i x (omega arith) e f)

  pub one-more : (xs : List X) (i : ℕ) (x : X) → i < length xs → x ≡ get_or xs i x → list_all p (take i xs) ≡ true → p x ≡ true → list_all p (take (i + 1) xs) ≡ true
  one-more xs i x l e t f = list_all_more p xs i x l ∙ both_true (list_all p (take i xs)) (p (get_or xs i x)) t (sym (ap p e) ∙ f)

pub list-in-range : (low high : ℕ) (xs : List ℕ) → RiseWithin low high xs → (k d : ℕ) → k < length xs → (low < get_or xs k d) × (get_or xs k d ≤ high)
list-in-range low high xs rise k d l =
    let at = position-within low high xs rise k l in
    let same = get_same xs k d 0 l in
    let above = at.0 in
    let below = at.1 in
    (omega arith, omega arith)

-- the set of no features
pub empty-set : (set : List Bool) (count : ℕ) → set ≡ replicate count false → set ≡ set_of (length set) []
empty-set set count e =
    let size : length set ≡ count = ap length e ∙ length-replicate count false in
    e ∙ ap (λ n. replicate n false) (sym size) ∙ set_of-none (length set) 1

-- what was read is a list
pub read-rising : (most : ℕ) (word line numbers : List ℕ) (yes : Bool) → list_in word most line ≡ cond yes (Some numbers) None → yes ≡ true → RiseWithin 0 most numbers
read-rising most word line numbers true e y = list_in-rising most word line numbers e
read-rising most word line numbers false e y = absurd (cc)
