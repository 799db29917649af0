-- The order of keys, as it is computed, is that of diagnoses.
use Rattle.std.proofs.Common.{◌≡◌, ℕ, ◌<◌, ◌↔◌, Bool, true, false, eqb, ◌||◌, List, [], ◌∷◌, ◌⊎◌, length, refl, sym, ◌∙◌, ap, inl, inr, arith, ⊎_elim}
use Rattle.std.specs.Prelude.{Contains}
use Rattle.std.specs.declared.cmp.Ordering.{Ordering}
use Rattle.std.specs.declared.cmp.Ordering.TheVariants.{Less, Equal, Greater}
use Rattle.std.specs.Ordering.{nat_cmp, ordering_then, ordering_reverse}
use Rattle.std.specs.Cmp.Lexicographic.{slice_cmp}
use Rattle.std.proofs.lemmas.Cmp.{ranked, nat_list_cmp_total}
use Rattle.std.proofs.lemmas.Bool.{cases_order, cases_Bool, eq-eqb, ne_eqb, lt-ltb, le-ltb, false≢true}
use Rattle.req_keys.specs.Positions.{RiseWithin, has}
use Rattle.req_keys.specs.Key.{PositionSet, IsKey}
use Rattle.req_keys.specs.Order.{ComesBefore, FirstDifferenceIsInSecond, key_cmp}
use Rattle.req_keys.proofs.PositionsLaws.{has-low, has-first, has-other}
use Rattle.req_keys.proofs.MemberLaws.{has-from_Contains, Contains-from_has, not_has-from_none}

nat_cmp-less : (x y : ℕ) → x < y → nat_cmp x y ≡ Less
nat_cmp-less x y l = rw (lt-ltb x y l) refl

nat_cmp-same : (x y : ℕ) → x ≡ y → nat_cmp x y ≡ Equal
nat_cmp-same x y e = rw (le-ltb x y (omega arith), eq-eqb x y e) refl

nat_cmp-greater : (x y : ℕ) → y < x → nat_cmp x y ≡ Greater
nat_cmp-greater x y l = rw (le-ltb x y (omega arith), ne_eqb x y (λ e. omega arith)) refl

-- what each answer says of the numbers
less-from : (x y : ℕ) → nat_cmp x y ≡ Less → x < y
less-from x y e = ranked x y Less (sym e)

same-from : (x y : ℕ) → nat_cmp x y ≡ Equal → x ≡ y
same-from x y e = ranked x y Equal (sym e)

then-less : (o p : Ordering) → ordering_then o p ≡ Less → (o ≡ Less) ⊎ ((o ≡ Equal) × (p ≡ Less))
then-less Less p e = inl refl
then-less Equal p e = inr (refl, e)
then-less Greater p e = absurd (cc)

then-equal : (o p : Ordering) → ordering_then o p ≡ Equal → (o ≡ Equal) × (p ≡ Equal)
then-equal Less p e = absurd (cc)
then-equal Equal p e = (refl, e)
then-equal Greater p e = absurd (cc)

slice_cmp-equal : (xs ys : List ℕ) → slice_cmp nat_cmp xs ys ≡ Equal → xs ≡ ys
slice_cmp-equal [] [] e = refl
slice_cmp-equal [] (y ∷ ys) e = absurd (cc)
slice_cmp-equal (x ∷ xs) [] e = absurd (cc)
slice_cmp-equal (x ∷ xs) (y ∷ ys) e =
    let both : (nat_cmp x y ≡ Equal) × (slice_cmp nat_cmp xs ys ≡ Equal) = then-equal (nat_cmp x y) (slice_cmp nat_cmp xs ys) e in
    let first : x ≡ y = same-from x y both.0 in
    let rest : xs ≡ ys = slice_cmp-equal xs ys both.1 in
    cc

slice_cmp-self : (xs : List ℕ) → slice_cmp nat_cmp xs xs ≡ Equal
slice_cmp-self [] = refl
slice_cmp-self (x ∷ xs) = rw (nat_cmp-same x x refl) (slice_cmp-self xs)

-- the position is the first on which the two differ, and it is in ys
record FirstInSecond (xs ys : List ℕ) (p : ℕ) : Type 0 where
  below : (i : ℕ) → i < p → has xs i ≡ has ys i
  out : has xs p ≡ false
  here : has ys p ≡ true

first_in_second : (low high : ℕ) (xs ys : List ℕ) → RiseWithin low high xs → RiseWithin low high ys → length xs ≡ length ys → slice_cmp nat_cmp ys xs ≡ Less → (p : ℕ) × (low < p) × FirstInSecond xs ys p
first_in_second low high [] [] h k l e = absurd (cc)
first_in_second low high [] (y ∷ ys) h k l e = absurd (omega arith)
first_in_second low high (x ∷ xs) [] h k l e = absurd (omega arith)
first_in_second low high (x ∷ xs) (y ∷ ys) h k l e =
    ⊎_elim
    (λ (less : nat_cmp y x ≡ Less).
    let lt : y < x = less-from y x less in (
      y,
      k.0,
      record {
        below = λ i u. has-other x xs i (λ s. omega arith) ∙ has-low x high xs i h.2 (omega arith) ∙ sym (has-other y ys i (λ s. omega arith) ∙ has-low y high ys i k.2 (omega arith));
        out = has-other x xs y (λ s. omega arith) ∙ has-low x high xs y h.2 (omega arith);
        here = has-first y ys;
      },
    ))
    (λ (both : (nat_cmp y x ≡ Equal) × (slice_cmp nat_cmp ys xs ≡ Less)).
    let same : y ≡ x = same-from y x both.0 in
    let k' : RiseWithin x high ys = rw same at k.2 in
    let rest : (p : ℕ) × (x < p) × FirstInSecond xs ys p = first_in_second x high xs ys h.2 k' (omega arith) both.1 in
    let above : x < rest.0 = rest.1 in
    let from : low < x = h.0 in (
      rest.0,
      omega arith,
      record {
        below = λ i u. rw same (ap (λ b. eqb x i || b) (rest.2.below i u));
        out = has-other x xs rest.0 (λ s. omega arith) ∙ rest.2.out;
        here = has-other y ys rest.0 (λ s. omega arith) ∙ rest.2.here;
      },
    ))
    (then-less (nat_cmp y x) (slice_cmp nat_cmp ys xs) e)

apart : (b : Bool) → b ≡ true → b ≡ false → ⊥
apart b t f = false≢true (sym f ∙ t)

-- the converse: the other answers don't fit
less-from_first : (low high : ℕ) (xs ys : List ℕ) (p : ℕ) → RiseWithin low high xs → RiseWithin low high ys → length xs ≡ length ys → FirstInSecond xs ys p → (o : Ordering) → slice_cmp nat_cmp ys xs ≡ o → o ≡ Less
less-from_first low high xs ys p h k l f Less e = refl
less-from_first low high xs ys p h k l f Equal e =
    let same : ys ≡ xs = slice_cmp-equal ys xs e in
    absurd (apart (has ys p) f.here (ap (λ t. has t p) same ∙ f.out))
less-from_first low high xs ys p h k l f Greater e =
    let turned : slice_cmp nat_cmp xs ys ≡ Less = nat_list_cmp_total.antisymm xs ys ∙ ap ordering_reverse e in
    let other : (q : ℕ) × (low < q) × FirstInSecond ys xs q = first_in_second low high ys xs k h (sym l) turned in
    ⊎_elim
    (λ (same : p ≡ other.0). absurd (apart (has ys p) f.here (ap (has ys) same ∙ other.2.out)))
    (⊎_elim
    (λ (lt : p < other.0). absurd (apart (has ys p) f.here (other.2.below p lt ∙ f.out)))
    (λ (gt : other.0 < p). absurd (apart (has xs other.0) other.2.here (f.below other.0 gt ∙ other.2.out))))
    (cases_order p other.0)

has-iff : (xs ys : List ℕ) (i : ℕ) → Contains xs i ↔ Contains ys i → has xs i ≡ has ys i
has-iff xs ys i h =
    ⊎_elim
    (λ (t : has xs i ≡ true). t ∙ sym (has-from_Contains ys i (h.0 (Contains-from_has xs i t))))
    (λ (f : has xs i ≡ false). f ∙ sym (not_has-from_none ys i (λ m. apart (has xs i) (has-from_Contains xs i (h.1 m)) f)))
    (cases_Bool (has xs i))

difference_from_first : (a b : PositionSet) (p : ℕ) → FirstInSecond a.members b.members p → FirstDifferenceIsInSecond a b
difference_from_first a b p f = (
  p,
  (λ i u. (λ m. Contains-from_has b.members i (sym (f.below i u) ∙ has-from_Contains a.members i m), λ m. Contains-from_has a.members i (f.below i u ∙ has-from_Contains b.members i m))),
  (λ m. apart (has a.members p) (has-from_Contains a.members p m) f.out),
  Contains-from_has b.members p f.here,
)

first_from_difference : (a b : PositionSet) (d : FirstDifferenceIsInSecond a b) → FirstInSecond a.members b.members d.0
first_from_difference a b d = record {
  below = λ i u. has-iff a.members b.members i (d.1 i u);
  out = not_has-from_none a.members d.0 d.2;
  here = has-from_Contains b.members d.0 d.3;
}

pub less_is_before : (a b : PositionSet) → IsKey a → IsKey b → key_cmp a b ≡ Less → ComesBefore a b
less_is_before a b h k e =
    ⊎_elim
    (λ (less : nat_cmp a.n b.n ≡ Less). inl (less-from a.n b.n less))
    (λ (rest : (nat_cmp a.n b.n ≡ Equal) × (ordering_then (nat_cmp (length a.members) (length b.members)) (slice_cmp nat_cmp b.members a.members) ≡ Less)).
    let one : a.n ≡ b.n = same-from a.n b.n rest.0 in
    let k' : RiseWithin 0 a.n b.members = rw one k.1 in
    inr (
      one,
      ⊎_elim
          (λ (fewer : nat_cmp (length a.members) (length b.members) ≡ Less). inl (less-from (length a.members) (length b.members) fewer))
          (λ (more : (nat_cmp (length a.members) (length b.members) ≡ Equal) × (slice_cmp nat_cmp b.members a.members ≡ Less)).
          let count : length a.members ≡ length b.members = same-from (length a.members) (length b.members) more.0 in
          let found : (p : ℕ) × (0 < p) × FirstInSecond a.members b.members p = first_in_second 0 a.n a.members b.members h.1 k' count more.1 in
          inr (count, difference_from_first a b found.0 found.2))
          (then-less (nat_cmp (length a.members) (length b.members)) (slice_cmp nat_cmp b.members a.members) rest.1),
    ))
    (then-less (nat_cmp a.n b.n) (ordering_then (nat_cmp (length a.members) (length b.members)) (slice_cmp nat_cmp b.members a.members)) e)

pub before_is_less : (a b : PositionSet) → IsKey a → IsKey b → ComesBefore a b → key_cmp a b ≡ Less
before_is_less a b h k (inl lt) = rw (nat_cmp-less a.n b.n lt) refl
before_is_less a b h k (inr (one, inl lt)) = rw (nat_cmp-same a.n b.n one, nat_cmp-less (length a.members) (length b.members) lt) refl
before_is_less a b h k (inr (one, inr (count, d))) =
    let k' : RiseWithin 0 a.n b.members = rw one k.1 in
    rw (nat_cmp-same a.n b.n one, nat_cmp-same (length a.members) (length b.members) count)
    (less-from_first 0 a.n a.members b.members d.0 h.1 k' count (first_from_difference a b d) (slice_cmp nat_cmp b.members a.members) refl)

pub equal_is_one : (a b : PositionSet) → key_cmp a b ≡ Equal → a ≡ b
equal_is_one a b e =
    let outer : (nat_cmp a.n b.n ≡ Equal) × (ordering_then (nat_cmp (length a.members) (length b.members)) (slice_cmp nat_cmp b.members a.members) ≡ Equal) = then-equal (nat_cmp a.n b.n) (ordering_then (nat_cmp (length a.members) (length b.members)) (slice_cmp nat_cmp b.members a.members)) e in
    let inner : (nat_cmp (length a.members) (length b.members) ≡ Equal) × (slice_cmp nat_cmp b.members a.members ≡ Equal) = then-equal (nat_cmp (length a.members) (length b.members)) (slice_cmp nat_cmp b.members a.members) outer.1 in
    let P : ℕ → List ℕ → PositionSet = λ n t. record { n = n; members = t } in
    ap (λ n. P n a.members) (same-from a.n b.n outer.0) ∙ ap (λ t. P b.n t) (sym (slice_cmp-equal b.members a.members inner.1))

pub one_is_equal : (a b : PositionSet) → a ≡ b → key_cmp a b ≡ Equal
one_is_equal a b e =
    rw e (rw (nat_cmp-same b.n b.n refl, nat_cmp-same (length b.members) (length b.members) refl) (slice_cmp-self b.members))

slice_cmp-turned : (xs ys : List ℕ) → slice_cmp nat_cmp xs ys ≡ Less → slice_cmp nat_cmp ys xs ≡ Greater
slice_cmp-turned xs ys e = nat_list_cmp_total.antisymm ys xs ∙ ap ordering_reverse e

-- where the second comes before the first, the first comes after it
pub greater-turned : (a b : PositionSet) → key_cmp b a ≡ Less → key_cmp a b ≡ Greater
greater-turned a b e =
    ⊎_elim
    (λ (less : nat_cmp b.n a.n ≡ Less). rw (nat_cmp-greater a.n b.n (less-from b.n a.n less)) refl)
    (λ (rest : (nat_cmp b.n a.n ≡ Equal) × (ordering_then (nat_cmp (length b.members) (length a.members)) (slice_cmp nat_cmp a.members b.members) ≡ Less)).
    rw (nat_cmp-same a.n b.n (sym (same-from b.n a.n rest.0)))
    (⊎_elim
    (λ (fewer : nat_cmp (length b.members) (length a.members) ≡ Less).
    rw (nat_cmp-greater (length a.members) (length b.members) (less-from (length b.members) (length a.members) fewer)) refl)
    (λ (more : (nat_cmp (length b.members) (length a.members) ≡ Equal) × (slice_cmp nat_cmp a.members b.members ≡ Less)).
    rw (nat_cmp-same (length a.members) (length b.members) (sym (same-from (length b.members) (length a.members) more.0)))
    (slice_cmp-turned a.members b.members more.1))
    (then-less (nat_cmp (length b.members) (length a.members)) (slice_cmp nat_cmp a.members b.members) rest.1)))
    (then-less (nat_cmp b.n a.n) (ordering_then (nat_cmp (length b.members) (length a.members)) (slice_cmp nat_cmp a.members b.members)) e)

-- what n and the number of members decide, and what they leave open
pub counts-equal : (a b : PositionSet) → Equal ≡ ordering_then (nat_cmp a.n b.n) (nat_cmp (length a.members) (length b.members)) → (a.n ≡ b.n) × (length a.members ≡ length b.members)
counts-equal a b e =
    let both = then-equal (nat_cmp a.n b.n) (nat_cmp (length a.members) (length b.members)) (sym e) in
    (same-from a.n b.n both.0, same-from (length a.members) (length b.members) both.1)
