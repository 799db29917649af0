-- Keys of the parts of a certificate.
use Rattle.std.proofs.Common.{◌≡◌, ◌∙◌, ◌⊎◌, refl, sym, ap, subst, ⊎_elim, inl, inr, ℕ, zero, suc, ◌+◌, ◌-◌, ◌<◌, ◌≤◌, Bool, true, false, not, ◌&&◌, ◌||◌, List, [], ◌∷◌, length, take, get_or, arith}
use Rattle.std.specs.Prelude.{◌==◌, nat_lt}
use Rattle.std.specs.List.{range_with_len}
use Rattle.std.proofs.lemmas.Bool.{cases_Bool}
use Rattle.std.proofs.lemmas.Bool.Decides.{nat_tests}
use Rattle.std.proofs.lemmas.List.{take_more}
use Rattle.req_keys.specs.Key.{key_with, union_of, difference_of}
use Rattle.req_keys.specs.Positions.{RiseWithin, has, positions_where}
use Rattle.req_keys.specs.Wanting.{key_over}
use Rattle.req_keys.proofs.PositionsLaws.{filter-range_agree, has-filter_range}
use Rattle.req_keys.proofs.Rises.{union-behind}
use Rattle.certificate.specs.Sets.{met_without, refuted_with}

-- ---- members of a range

has-range_in : (m a i : ℕ) → a ≤ i → i < a + m → has (range_with_len a m) i ≡ true
has-range_in zero a i l h = absurd (omega arith)
has-range_in (suc m) a i l h =
    ⊎_elim
    (λ (t : (a == i) ≡ true). ap (λ b. b || has (range_with_len (a + 1) m) i) t)
    (λ (f : (a == i) ≡ false). ap (λ b. b || has (range_with_len (a + 1) m) i) f ∙ has-range_in m (a + 1) i (grind (arith, nat_tests)) (omega arith))
    (cases_Bool (a == i))

has-range_below : (m a i : ℕ) → i < a → has (range_with_len a m) i ≡ false
has-range_below zero a i l = refl
has-range_below (suc m) a i l = let no : (a == i) ≡ false = grind (arith, nat_tests) in ap (λ b. b || has (range_with_len (a + 1) m) i) no ∙ has-range_below m (a + 1) i (omega arith)

has-range_beyond : (m a i : ℕ) → a + m ≤ i → has (range_with_len a m) i ≡ false
has-range_beyond zero a i l = refl
has-range_beyond (suc m) a i l = let no : (a == i) ≡ false = grind (arith, nat_tests) in ap (λ b. b || has (range_with_len (a + 1) m) i) no ∙ has-range_beyond m (a + 1) i (omega arith)

same_test : (i p : ℕ) → (p == i) ≡ (i == p)
same_test i p =
    ⊎_elim
    (λ (t : (p == i) ≡ true). let u : (i == p) ≡ true = grind (arith, nat_tests) in t ∙ sym u)
    (λ (f : (p == i) ≡ false). let u : (i == p) ≡ false = grind (arith, nat_tests) in f ∙ sym u)
    (cases_Bool (p == i))

below_or_not : (i p : ℕ) → ((i < p) × (nat_lt i p ≡ true)) ⊎ ((p ≤ i) × (nat_lt i p ≡ false))
below_or_not i p =
    ⊎_elim
    (λ (t : nat_lt i p ≡ true). inl (grind (arith, nat_tests), t))
    (λ (f : nat_lt i p ≡ false). inr (grind (arith, nat_tests), f))
    (cases_Bool (nat_lt i p))

and_true : (a : Bool) → (a && true) ≡ a
and_true true = refl
and_true false = refl

and_false : (a : Bool) → (a && false) ≡ false
and_false true = refl
and_false false = refl

-- ---- keys

module _ (n : ℕ) where
  refuted_tests : (kept : List ℕ) (p i : ℕ) → 1 ≤ p → p ≤ n → 1 ≤ i → i < 1 + n
      → (has (positions_where n (λ k. has kept k && not (has (range_with_len ((p - 1) + 1) (n - (p - 1))) k))) i || (p == i)) ≡ ((nat_lt i p && has kept i) || (i == p))
  refuted_tests kept p i low high inside within =
      let from : (p - 1) + 1 ≡ p = omega arith in
      ap (λ b. b || (p == i)) (has-filter_range (λ k. has kept k && not (has (range_with_len ((p - 1) + 1) (n - (p - 1))) k)) 1 n i inside within)
      ∙ ap (λ b. (has kept i && not (has (range_with_len ((p - 1) + 1) (n - (p - 1))) i)) || b) (same_test i p)
      ∙ ap (λ b. b || (i == p))
      (⊎_elim
      (λ (l : (i < p) × (nat_lt i p ≡ true)).
      let below = l.0 in
      ap (λ b. has kept i && not b) (has-range_below (n - (p - 1)) ((p - 1) + 1) i (omega arith)) ∙ and_true (has kept i) ∙ sym (ap (λ b. b && has kept i) l.1))
      (λ (g : (p ≤ i) × (nat_lt i p ≡ false)).
      let above = g.0 in
      ap (λ b. has kept i && not b) (has-range_in (n - (p - 1)) ((p - 1) + 1) i (omega arith) (omega arith)) ∙ and_false (has kept i) ∙ sym (ap (λ b. b && has kept i) g.1))
      (below_or_not i p))

  pub refuted-is : (kept : List ℕ) (p : ℕ) → 1 ≤ p → p ≤ n
      → key_with (difference_of (key_over n kept) (key_over n (range_with_len ((p - 1) + 1) (n - (p - 1))))) p ≡ key_over n (refuted_with n kept p)
  refuted-is kept p low high =
      ap (key_over n)
      (filter-range_agree (λ i. has (positions_where n (λ k. has kept k && not (has (range_with_len ((p - 1) + 1) (n - (p - 1))) k))) i || (p == i)) (λ i. (nat_lt i p && has kept i) || (i == p)) 1 n
      (λ i inside within. refuted_tests kept p i low high inside within))

  needed_tests : (conflict : List ℕ) (p i : ℕ) → 1 ≤ p → p ≤ n → 1 ≤ i → i < 1 + n
      → (has (range_with_len (0 + 1) (p - 1)) i || has (positions_where n (λ k. has conflict k && not (has (range_with_len (0 + 1) p) k))) i) ≡ (nat_lt i p || (nat_lt p i && has conflict i))
  needed_tests conflict p i low high inside within =
      ap (λ b. has (range_with_len (0 + 1) (p - 1)) i || b) (has-filter_range (λ k. has conflict k && not (has (range_with_len (0 + 1) p) k)) 1 n i inside within)
      ∙ ⊎_elim
      (λ (l : (i < p) × (nat_lt i p ≡ true)).
      let below = l.0 in
      ap (λ b. b || (has conflict i && not (has (range_with_len (0 + 1) p) i))) (has-range_in (p - 1) (0 + 1) i (omega arith) (omega arith)) ∙ sym (ap (λ b. b || (nat_lt p i && has conflict i)) l.1))
      (λ (g : (p ≤ i) × (nat_lt i p ≡ false)).
      let above = g.0 in
      ap (λ b. b || (has conflict i && not (has (range_with_len (0 + 1) p) i))) (has-range_beyond (p - 1) (0 + 1) i (omega arith))
      ∙ ⊎_elim
      (λ (u : (p < i) × (nat_lt p i ≡ true)).
      let up = u.0 in
      ap (λ b. has conflict i && not b) (has-range_beyond p (0 + 1) i (omega arith)) ∙ and_true (has conflict i) ∙ sym (ap (λ b. b && has conflict i) u.1))
      (λ (v : (i ≤ p) × (nat_lt p i ≡ false)).
      let down = v.0 in
      ap (λ b. has conflict i && not b) (has-range_in p (0 + 1) i (omega arith) (omega arith)) ∙ and_false (has conflict i) ∙ sym (ap (λ b. b && has conflict i) v.1))
      (below_or_not p i)
      ∙ sym (ap (λ b. b || (nat_lt p i && has conflict i)) g.1))
      (below_or_not i p)

  pub needed-is : (conflict : List ℕ) (p : ℕ) → 1 ≤ p → p ≤ n
      → union_of (key_over n (range_with_len (0 + 1) (p - 1))) (difference_of (key_over n conflict) (key_over n (range_with_len (0 + 1) p))) ≡ key_over n (met_without n conflict p)
  needed-is conflict p low high =
      ap (key_over n)
      (filter-range_agree (λ i. has (range_with_len (0 + 1) (p - 1)) i || has (positions_where n (λ k. has conflict k && not (has (range_with_len (0 + 1) p) k))) i) (λ i. nat_lt i p || (nat_lt p i && has conflict i)) 1 n
      (λ i inside within. needed_tests conflict p i low high inside within))

or_nothing : (b : Bool) → b ≡ (b || false)
or_nothing true = refl
or_nothing false = refl

-- ---- ascending numbers, one after another

rise-take : (low high k : ℕ) (xs : List ℕ) → RiseWithin low high xs → RiseWithin low high (take k xs)
rise-take low high zero xs r = tt
rise-take low high (suc k) [] r = tt
rise-take low high (suc k) (x ∷ xs) r = (r.0, r.1, rise-take x high k xs r.2)

pub key-more : (n i : ℕ) (numbers : List ℕ) → RiseWithin 0 n numbers → i < length numbers → key_with (key_over n (take i numbers)) (get_or numbers i 0) ≡ key_over n (take (i + 1) numbers)
key-more n i numbers rise inside =
    let x = get_or numbers i 0 in
    let next = take_more numbers i 0 inside in
    ap (key_over n)
    (filter-range_agree (λ k. has (take i numbers) k || (x == k)) (λ k. has (take i numbers) k || has (x ∷ []) k) 1 n
    (λ k low high. ap (λ b. has (take i numbers) k || b) (or_nothing (x == k)))
    ∙ union-behind n (take i numbers) (x ∷ []) (subst (RiseWithin 0 n) next (rise-take 0 n (i + 1) numbers rise))
    ∙ sym next)
