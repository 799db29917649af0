-- What the rows of keys show.
use Rattle.std.proofs.Common.{◌≡◌, ℕ, ◌+◌, ◌-◌, ◌*◌, ◌/◌, ◌%◌, ◌<◌, ◌≤◌, ◌↔◌, Bool, true, false, not, ◌&&◌, ◌||◌, ltb, leb, List, length, get_or, refl, sym, ◌∙◌, ap, inr, ⊎_elim, arith, subst}
use Rattle.std.specs.Prelude.{Contains, IsTrue, ◌==◌}
use Rattle.std.specs.List.{range_with_len, list_all}
use Rattle.std.proofs.lemmas.Bool.{cases_eq, cases_lt, cases_Bool, eq-eqb, ne_eqb, true≢false, lt-ltb, le-ltb, lt-leb, le-leb, not-true, false_from_ne_true}
use Rattle.std.proofs.lemmas.List.FromFn.{get_or-range_with_len, length-range_with_len}
use Rattle.std.proofs.lemmas.List.{get_or_past}
use Rattle.lists.proofs.Members.{all_at, all_from}
use Rattle.req_keys.specs.Key.{PositionSet, IsKey}
use Rattle.req_keys.specs.Positions.{RiseWithin, has, positions_where}
use Rattle.req_keys.specs.Words.{bit_of, word_count, key_of_words}
use Rattle.req_keys.specs.inside.Rows.{IsRow, HasBits, AreSame, AreWithin, AreApart, IsInSecond, SaysOrder}
use Rattle.req_keys.proofs.PositionsLaws.{RiseWithin-filter_range, RiseWithin-range, has-filter_range, has-low, has-high, positions_where-has, filter-range_agree}
use Rattle.std.specs.declared.cmp.Ordering.{Ordering}
use Rattle.std.specs.declared.cmp.Ordering.TheVariants.{Less, Equal, Greater}
use Rattle.req_keys.specs.Order.{FirstDifferenceIsInSecond, key_cmp}
use Rattle.req_keys.proofs.OrderLaws.{before_is_less, one_is_equal, greater-turned}
use Rattle.req_keys.proofs.MemberLaws.{has-get_or, has-from_Contains, Contains-from_has}
use Rattle.req_keys.proofs.RowLaws.{IsRow-from_bits, members-from_bits, range-none, is_unset-from}
use Rattle.std.specs.Int.{bit_at}
use Rattle.std.proofs.lemmas.Nat.Bits.{bit_at-zero}

-- the members that a row over n positions shows
abbrev pub shown : ℕ → List ℕ → List ℕ
shown n words = positions_where n (λ position. bit_of words (position - 1))

pub shown-rise : (n : ℕ) (words : List ℕ) → RiseWithin 0 n (shown n words)
shown-rise n words = RiseWithin-filter_range _ 1 n 0 n (omega arith) (omega arith)

pub shown-key : (n : ℕ) (words : List ℕ) → IsRow n words → IsKey (key_of_words n words)
shown-key n words h = (h.most, shown-rise n words)

pub few_words : (n : ℕ) (words : List ℕ) → IsRow n words → length words ≤ 64
few_words n words h = let many = h.over.0 in let most = h.most in omega arith

pub has-shown : (n : ℕ) (words : List ℕ) (p : ℕ) → 1 ≤ p → p ≤ n → has (shown n words) p ≡ bit_of words (p - 1)
has-shown n words p low high = has-filter_range (λ position. bit_of words (position - 1)) 1 n p low (omega arith)

pub has-shown_at : (n : ℕ) (words : List ℕ) (i : ℕ) → i < n → has (shown n words) (i + 1) ≡ bit_of words i
has-shown_at n words i l =
    let at : (i + 1) - 1 ≡ i = omega arith in
    has-shown n words (i + 1) (omega arith) (omega arith) ∙ ap (bit_of words) at

pub has-shown_zero : (n : ℕ) (words : List ℕ) (p : ℕ) → p ≡ 0 → has (shown n words) p ≡ false
has-shown_zero n words p e = has-low 0 n (shown n words) p (shown-rise n words) (omega arith)

pub has-shown_past : (n : ℕ) (words : List ℕ) (p : ℕ) → n < p → has (shown n words) p ≡ false
has-shown_past n words p l = has-high 0 n (shown n words) p (shown-rise n words) l

-- ---- two keys over the same positions, by the rows that they are kept as

pub view_n : (n : ℕ) (words : List ℕ) (key : PositionSet) → key_of_words n words ≡ key → n ≡ key.n
view_n n words key e = let number : PositionSet → ℕ = λ k. k.n in ap number e

pub same_n : (n m : ℕ) (first second : List ℕ) (a b : PositionSet) → key_of_words n first ≡ a → key_of_words m second ≡ b → a.n ≡ b.n → m ≡ n
same_n n m first second a b e f same = view_n m second b f ∙ sym same ∙ sym (view_n n first a e)

pub row_over : (n m : ℕ) (second : List ℕ) → m ≡ n → IsRow m second → IsRow n second
row_over n m second e is = subst (λ k. IsRow k second) e is

-- the slices of both rows have as many words
pub same_length : (n m : ℕ) (first second one two : List ℕ) → one ≡ first → two ≡ second → m ≡ n → IsRow n first → IsRow m second → length one ≡ length two
same_length n m first second one two e f same is_first is_second =
    ap length e ∙ is_first.over.0 ∙ sym (ap word_count same) ∙ sym is_second.over.0 ∙ sym (ap length f)

-- ---- a range

has-range : (before more p : ℕ) → 1 ≤ p → (leb before (p - 1) && ltb (p - 1) (before + more)) ≡ has (range_with_len (before + 1) more) p
has-range before more p one =
    let xs : List ℕ = range_with_len (before + 1) more in
    let rise : RiseWithin before (before + more) xs = RiseWithin-range (before + 1) more before (before + more) (omega arith) (omega arith) in
    ⊎_elim
    (λ (below : p - 1 < before). rw (lt-leb before (p - 1) below) (sym (has-low before (before + more) xs p rise (omega arith))))
    (λ (from : before ≤ p - 1).
    ⊎_elim
    (λ (within : p - 1 < before + more).
    let k : ℕ = p - 1 - before in
    let at : (before + 1) + k ≡ p = omega arith in
    rw (le-leb before (p - 1) from, lt-ltb (p - 1) (before + more) within)
    (sym (has-get_or xs k p (rw (length-range_with_len (before + 1) more) (omega arith)) (get_or-range_with_len (before + 1) more k 0 (omega arith) ∙ at))))
    (λ (past : before + more ≤ p - 1).
    rw (le-leb before (p - 1) from, le-ltb (p - 1) (before + more) past) (sym (has-high before (before + more) xs p rise (omega arith))))
    (cases_lt (p - 1) (before + more)))
    (cases_lt (p - 1) before)

pub range-row : (n before more : ℕ) (words : List ℕ) → n ≤ 4096 → before + more ≤ n → HasBits words (word_count n) (λ i. leb before i && ltb i (before + more)) → IsRow n words
range-row n before more words most within h = IsRow-from_bits n words _ most h (λ i above. range-none n before (before + more) i within above)

pub range-shown : (n before more : ℕ) (words : List ℕ) → before + more ≤ n → HasBits words (word_count n) (λ i. leb before i && ltb i (before + more)) → shown n words ≡ range_with_len (before + 1) more
range-shown n before more words within h =
    members-from_bits n words _ (has (range_with_len (before + 1) more)) h (λ p low high. has-range before more p low)
    ∙ positions_where-has n 0 (range_with_len (before + 1) more) (RiseWithin-range (before + 1) more 0 n (omega arith) (omega arith))

-- ---- two rows over the same positions

module _ (n : ℕ) (a b : List ℕ) (is_a : IsRow n a) (is_b : IsRow n b) where
  a_none : (i : ℕ) → n ≤ i → bit_of a i ≡ true → i < 64 * length a → ⊥
  a_none i above set within = true≢false (sym set ∙ is_a.over.1 i above within)

  same_count : length a ≡ length b
  same_count = is_a.over.0 ∙ sym is_b.over.0

  pub subset-true : AreWithin (64 * length a) a b → list_all (λ i. has (shown n b) i) (shown n a) ≡ true
  subset-true h = all_from (has (shown n b)) (shown n a) (λ p m.
      let inside : has (shown n a) p ≡ true = has-from_Contains (shown n a) p m in
      let low : 1 ≤ p = ⊎_elim (λ (z : p < 1). absurd (true≢false (sym inside ∙ has-shown_zero n a p (omega arith)))) (λ (l : 1 ≤ p). l) (cases_lt p 1) in
      let high : p ≤ n = ⊎_elim (λ (past : n < p). absurd (true≢false (sym inside ∙ has-shown_past n a p past))) (λ (l : p ≤ n). l) (cases_lt n p) in
      let many : length a ≡ word_count n = is_a.over.0 in
      has-shown n b p low high ∙ h (p - 1) (omega arith) (sym (has-shown n a p low high) ∙ inside))

  pub subset-from : list_all (λ i. has (shown n b) i) (shown n a) ≡ true → AreWithin (64 * length a) a b
  subset-from h i within set =
      ⊎_elim
      (λ (inside : i < n).
      let m : Contains (shown n a) (i + 1) = Contains-from_has (shown n a) (i + 1) (has-shown_at n a i inside ∙ set) in
      sym (has-shown_at n b i inside) ∙ all_at (has (shown n b)) (shown n a) (i + 1) h m)
      (λ (above : n ≤ i). absurd (a_none i above set within))
      (cases_lt i n)

  pub disjoint-true : AreApart (64 * length a) a b → list_all (λ i. not (has (shown n b) i)) (shown n a) ≡ true
  disjoint-true h = all_from (λ i. not (has (shown n b) i)) (shown n a) (λ p m.
      let inside : has (shown n a) p ≡ true = has-from_Contains (shown n a) p m in
      let low : 1 ≤ p = ⊎_elim (λ (z : p < 1). absurd (true≢false (sym inside ∙ has-shown_zero n a p (omega arith)))) (λ (l : 1 ≤ p). l) (cases_lt p 1) in
      let high : p ≤ n = ⊎_elim (λ (past : n < p). absurd (true≢false (sym inside ∙ has-shown_past n a p past))) (λ (l : p ≤ n). l) (cases_lt n p) in
      let many : length a ≡ word_count n = is_a.over.0 in
      ap not (has-shown n b p low high ∙ h (p - 1) (omega arith) (sym (has-shown n a p low high) ∙ inside)))

  pub disjoint-from : list_all (λ i. not (has (shown n b) i)) (shown n a) ≡ true → AreApart (64 * length a) a b
  disjoint-from h i within set =
      ⊎_elim
      (λ (inside : i < n).
      let m : Contains (shown n a) (i + 1) = Contains-from_has (shown n a) (i + 1) (has-shown_at n a i inside ∙ set) in
      sym (has-shown_at n b i inside) ∙ not-true (has (shown n b) (i + 1)) (all_at (λ k. not (has (shown n b) k)) (shown n a) (i + 1) h m))
      (λ (above : n ≤ i). absurd (a_none i above set within))
      (cases_lt i n)

  pub same-members : AreSame (64 * length a) a b → shown n a ≡ shown n b
  same-members h =
      let many : length a ≡ word_count n = is_a.over.0 in
      filter-range_agree (λ p. bit_of a (p - 1)) (λ p. bit_of b (p - 1)) 1 n (λ p low high. h (p - 1) (omega arith))

  pub same-from_members : shown n a ≡ shown n b → AreSame (64 * length a) a b
  same-from_members e i within =
      ⊎_elim
      (λ (inside : i < n). sym (has-shown_at n a i inside) ∙ ap (λ t. has t (i + 1)) e ∙ has-shown_at n b i inside)
      (λ (above : n ≤ i). is_a.over.1 i above within ∙ sym (is_b.over.1 i above (rw same_count at within)))
      (cases_lt i n)

-- a test that decides the same as another
pub same_tests : (r s : Bool) (P : Type 0) → (IsTrue r ↔ P) → (P → s ≡ true) → (s ≡ true → P) → r ≡ s
same_tests r s P h to from =
    ⊎_elim
    (λ (t : r ≡ true). t ∙ sym (to (h.0 t)))
    (λ (f : r ≡ false). f ∙ sym (false_from_ne_true s (λ e. true≢false (sym (h.1 (from e)) ∙ f))))
    (cases_Bool r)

bit-past_end : (words : List ℕ) (i : ℕ) → 64 * length words ≤ i → bit_of words i ≡ false
bit-past_end words i past =
    let none : get_or words (i / 64) 0 ≡ 0 = get_or_past words (i / 64) 0 (omega arith) in
    is_unset-from (get_or words (i / 64) 0) (i % 64) (ap (λ w. bit_at w (i % 64)) none ∙ bit_at-zero (i % 64))

-- ---- the order of two keys

module _ (n : ℕ) (a b : List ℕ) (is_a : IsRow n a) (is_b : IsRow n b) where
  pub first_in_second : (i : ℕ) → IsInSecond a b i → FirstDifferenceIsInSecond (key_of_words n a) (key_of_words n b)
  first_in_second i h =
      let inside : i < n =
      ⊎_elim (λ (l : i < n). l) (λ (above : n ≤ i). absurd (true≢false (sym h.2 ∙ is_b.over.1 i above (rw (is_a.over.0 ∙ sym is_b.over.0) at h.3)))) (cases_lt i n) in
      let at : (p : ℕ) → p < i + 1 → has (shown n a) p ≡ has (shown n b) p = λ p l.
      ⊎_elim
      (λ (z : p < 1). has-shown_zero n a p (omega arith) ∙ sym (has-shown_zero n b p (omega arith)))
      (λ (low : 1 ≤ p). has-shown n a p low (omega arith) ∙ h.0 (p - 1) (omega arith) ∙ sym (has-shown n b p low (omega arith)))
      (cases_lt p 1) in (
        i + 1,
        (λ p l. (
          (λ m. Contains-from_has (shown n b) p (sym (at p l) ∙ has-from_Contains (shown n a) p m)),
          (λ m. Contains-from_has (shown n a) p (at p l ∙ has-from_Contains (shown n b) p m)),
        )),
        (λ m. true≢false (sym (has-from_Contains (shown n a) (i + 1) m) ∙ has-shown_at n a i inside ∙ h.1)),
        Contains-from_has (shown n b) (i + 1) (has-shown_at n b i inside ∙ h.2),
      )

-- of keys over one n with as many members the rows say the order
pub row_order : (n : ℕ) (a b : List ℕ) → IsRow n a → IsRow n b → length (shown n a) ≡ length (shown n b) → (order : Ordering) → SaysOrder a b order → order ≡ key_cmp (key_of_words n a) (key_of_words n b)
row_order n a b is_a is_b count Less h =
    sym (before_is_less (key_of_words n a) (key_of_words n b) (shown-key n a is_a) (shown-key n b is_b) (inr (refl, inr (count, first_in_second n a b is_a is_b h.0 h.1))))
row_order n a b is_a is_b count Equal h = sym (one_is_equal (key_of_words n a) (key_of_words n b) (ap (key_of_words n) h))
row_order n a b is_a is_b count Greater h =
    sym (greater-turned (key_of_words n a) (key_of_words n b)
    (before_is_less (key_of_words n b) (key_of_words n a) (shown-key n b is_b) (shown-key n a is_a) (inr (refl, inr (sym count, first_in_second n b a is_b is_a h.0 h.1)))))

-- ---- rows made of two rows, or of one and a position

module _ (n : ℕ) (a b : List ℕ) (is_a : IsRow n a) (is_b : IsRow n b) where
  bit_past : (words : List ℕ) → IsRow n words → (i : ℕ) → n ≤ i → bit_of words i ≡ false
  bit_past words h i above =
      ⊎_elim
      (λ (within : i < 64 * length words). h.over.1 i above within)
      (λ (past : 64 * length words ≤ i). bit-past_end words i past)
      (cases_lt i (64 * length words))

  pub union-row : (words : List ℕ) → HasBits words (length a) (λ i. bit_of a i || bit_of b i) → IsRow n words
  union-row words h =
      IsRow-from_bits n words _ is_a.most (rw is_a.over.0 at h) (λ i above. rw (bit_past a is_a i above, bit_past b is_b i above) refl)

  pub union-shown : (words : List ℕ) → HasBits words (length a) (λ i. bit_of a i || bit_of b i) → shown n words ≡ positions_where n (λ p. has (shown n a) p || has (shown n b) p)
  union-shown words h =
      members-from_bits n words _ (λ p. has (shown n a) p || has (shown n b) p) (rw is_a.over.0 at h)
      (λ p low high. rw (has-shown n a p low high, has-shown n b p low high) refl)

  pub minus-row : (words : List ℕ) → HasBits words (length a) (λ i. bit_of a i && not (bit_of b i)) → IsRow n words
  minus-row words h =
      IsRow-from_bits n words _ is_a.most (rw is_a.over.0 at h) (λ i above. rw (bit_past a is_a i above) refl)

  pub minus-shown : (words : List ℕ) → HasBits words (length a) (λ i. bit_of a i && not (bit_of b i)) → shown n words ≡ positions_where n (λ p. has (shown n a) p && not (has (shown n b) p))
  minus-shown words h =
      members-from_bits n words _ (λ p. has (shown n a) p && not (has (shown n b) p)) (rw is_a.over.0 at h)
      (λ p low high. rw (has-shown n a p low high, has-shown n b p low high) refl)

module _ (n : ℕ) (a : List ℕ) (is_a : IsRow n a) (i : ℕ) (low_i : 1 ≤ i) (high_i : i ≤ n) where
  pub with-row : (words : List ℕ) → HasBits words (length a) (λ k. bit_of a k || (i - 1 == k)) → IsRow n words
  with-row words h =
      IsRow-from_bits n words _ is_a.most (rw is_a.over.0 at h)
      (λ k above. rw (bit_past n a a is_a is_a a is_a k above, ne_eqb (i - 1) k (λ e. omega arith)) refl)

  same_place : (p : ℕ) → 1 ≤ p → (i - 1 == p - 1) ≡ (i == p)
  same_place p low =
      ⊎_elim
      (λ (same : i ≡ p). rw (eq-eqb i p same, eq-eqb (i - 1) (p - 1) (omega arith)) refl)
      (λ (other : i ≡ p → ⊥). rw (ne_eqb i p other, ne_eqb (i - 1) (p - 1) (λ e. other (omega arith))) refl)
      (cases_eq i p)

  pub with-shown : (words : List ℕ) → HasBits words (length a) (λ k. bit_of a k || (i - 1 == k)) → shown n words ≡ positions_where n (λ p. has (shown n a) p || (i == p))
  with-shown words h =
      members-from_bits n words _ (λ p. has (shown n a) p || (i == p)) (rw is_a.over.0 at h)
      (λ p low high. rw (has-shown n a p low high, same_place p low) refl)

  pub with-within : i - 1 < 64 * length a
  with-within = let many : length a ≡ word_count n = is_a.over.0 in omega arith
