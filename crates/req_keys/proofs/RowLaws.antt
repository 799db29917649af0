-- Rows of words by their bits.
use Rattle.std.proofs.Common.{◌≡◌, ◌⊎◌, ℕ, zero, suc, ◌+◌, ◌-◌, ◌*◌, ◌/◌, ◌%◌, ◌^◌, ◌<◌, ◌≤◌, min, max, Bool, true, false, cond, not, ◌&&◌, ◌||◌, ltb, leb, List, [], ◌∷◌, ◌++◌, length, get_or, set, refl, sym, ◌∙◌, ap, inl, inr, ⊎_elim, arith, add_comm, w64, bit_and, bit_or, bit_xor, count_ones}
use Rattle.std.specs.Prelude.{◌==◌, filter}
use Rattle.std.specs.List.{range_with_len}
use Rattle.std.specs.Int.{bit_at, bit_not, trailing_zeros}
use Rattle.std.proofs.lemmas.Nat.{ones_cat, and_le_l, xor_lt}
use Rattle.std.specs.Int.Count.{ones}
use Rattle.std.proofs.lemmas.Nat.Bits.{bit_at_and, bit_at_or, bit_at_xor, bit_at_not, bit_at_ones, bit_at_ones_above, bit_at-lt, bit_at-zero, bit_at-trailing_zeros, bit_at_set_same, bit_at_set_other, bit_at_clear_same, bit_at_clear_other, bit_at_above, same_from_bits_below, shr_and_one}
use Rattle.std.proofs.lemmas.List.{length-append, get_or_append_left, append-nil, append_assoc, length-set, get_or-set_same, get_or-set_other}
use Rattle.std.proofs.lemmas.List.Elements.{filter-append}
use Rattle.std.proofs.Math.Seq.{get_or-append_seam}
use Rattle.std.proofs.Math.Bool.{or-true, or-false}
use Rattle.std.proofs.lemmas.Bool.{cases_eq, cases_lt, cases_Bool, eq-eqb, ne_eqb, eqb-true, false≢true, true≢false, lt-ltb, le-ltb, le-leb, lt-leb, and_parts}
use Rattle.req_keys.specs.Words.{bit_of, bits_where, word_count}
use Rattle.req_keys.proofs.WordLaws.{bits_where-zero, bits_where-push, bits_where-lt, bit_at-bits_where, cond-mul, place}
use Rattle.lists.proofs.Ranges.{range-append}
use Rattle.req_keys.specs.Positions.{positions_where}
use Rattle.req_keys.specs.inside.Rows.{IsRow, HasBits, AreSame, AreWithin, AreApart, IsInSecond, IsInSecondWord, positions_to, AreDone}
use Rattle.req_keys.proofs.PositionsLaws.{filter-range_push, filter-range_agree, filter-range_none}

zero≢one : {m n : ℕ} → m ≡ n → m ≡ 0 → n ≡ 1 → ⊥
zero≢one e f g = omega arith

-- ---- one bit

pub bit-cases : (word b : ℕ) → (bit_at word b ≡ 0) ⊎ (bit_at word b ≡ 1)
bit-cases word b = ⊎_elim (λ (e : bit_at word b ≡ 0). inl e) (λ (n : bit_at word b ≡ 0 → ⊥). inr (let l : bit_at word b < 2 = bit_at-lt word b in omega arith)) (cases_eq (bit_at word b) 0)

pub is_set-from : (word b : ℕ) → bit_at word b ≡ 1 → (bit_at word b == 1) ≡ true
is_set-from word b e = eq-eqb _ 1 e

pub is_unset-from : (word b : ℕ) → bit_at word b ≡ 0 → (bit_at word b == 1) ≡ false
is_unset-from word b e = rw e refl

pub one-from_set : (word b : ℕ) → (bit_at word b == 1) ≡ true → bit_at word b ≡ 1
one-from_set word b e = eqb-true _ 1 e

pub zero-from_unset : (word b : ℕ) → (bit_at word b == 1) ≡ false → bit_at word b ≡ 0
zero-from_unset word b e = ⊎_elim (λ (z : bit_at word b ≡ 0). z) (λ (o : bit_at word b ≡ 1). absurd (true≢false (sym (is_set-from word b o) ∙ e))) (bit-cases word b)

or-both : (x y : ℕ) → x < 2 → y < 2 → (max x y == 1) ≡ ((x == 1) || (y == 1))
or-both zero zero l m = refl
or-both zero (suc zero) l m = refl
or-both (suc zero) zero l m = refl
or-both (suc zero) (suc zero) l m = refl
or-both (suc (suc x)) y l m = absurd (omega arith)
or-both zero (suc (suc y)) l m = absurd (omega arith)
or-both (suc zero) (suc (suc y)) l m = absurd (omega arith)

and-both : (x y : ℕ) → x < 2 → y < 2 → (min x y == 1) ≡ ((x == 1) && (y == 1))
and-both zero zero l m = refl
and-both zero (suc zero) l m = refl
and-both (suc zero) zero l m = refl
and-both (suc zero) (suc zero) l m = refl
and-both (suc (suc x)) y l m = absurd (omega arith)
and-both zero (suc (suc y)) l m = absurd (omega arith)
and-both (suc zero) (suc (suc y)) l m = absurd (omega arith)

not-one : (x : ℕ) → x < 2 → (1 - x == 1) ≡ not (x == 1)
not-one zero l = refl
not-one (suc zero) l = refl
not-one (suc (suc x)) l = absurd (omega arith)

-- what a bit of the words that the code computes is
pub bit-or : (x y b : ℕ) → (bit_at (bit_or x y) b == 1) ≡ ((bit_at x b == 1) || (bit_at y b == 1))
bit-or x y b = ap (λ t. t == 1) (bit_at_or x y b) ∙ or-both _ _ (bit_at-lt x b) (bit_at-lt y b)

pub bit-and : (x y b : ℕ) → (bit_at (bit_and x y) b == 1) ≡ ((bit_at x b == 1) && (bit_at y b == 1))
bit-and x y b = ap (λ t. t == 1) (bit_at_and x y b) ∙ and-both _ _ (bit_at-lt x b) (bit_at-lt y b)

pub bit-not : (y b : ℕ) → y < 2 ^ 64 → b < 64 → (bit_at (bit_not w64 y) b == 1) ≡ not (bit_at y b == 1)
bit-not y b fits l = ap (λ t. t == 1) (bit_at_not w64 y b fits l) ∙ not-one _ (bit_at-lt y b)

pub bit-without : (x y b : ℕ) → y < 2 ^ 64 → b < 64 → (bit_at (bit_and x (bit_not w64 y)) b == 1) ≡ ((bit_at x b == 1) && not (bit_at y b == 1))
bit-without x y b fits l = bit-and x (bit_not w64 y) b ∙ ap (λ t. (bit_at x b == 1) && t) (bit-not y b fits l)

-- ---- where a bit of a row stands

pub bit-in_word : (words : List ℕ) (j b : ℕ) → b < 64 → bit_of words (64 * j + b) ≡ (bit_at (get_or words j 0) b == 1)
bit-in_word words j b l =
    ap (λ q. bit_at (get_or words q 0) ((64 * j + b) % 64) == 1) (place j b l).0
    ∙ ap (λ r. bit_at (get_or words j 0) r == 1) (place j b l).1

pub split : (i : ℕ) → (i ≡ 64 * (i / 64) + i % 64) × (i % 64 < 64)
split i = (omega arith, omega arith)

-- the bits of the first words, and those of one word more
pub below-or_in : (j i : ℕ) → i < 64 * (j + 1) → (i < 64 * j) ⊎ ((b : ℕ) × (b < 64) × (i ≡ 64 * j + b))
below-or_in j i l =
    ⊎_elim (λ (below : i < 64 * j). inl below) (λ (above : 64 * j ≤ i). inr (i - 64 * j, omega arith, omega arith)) (cases_lt i (64 * j))

pub HasBits-push : (words : List ℕ) (j w : ℕ) (test : ℕ → Bool) → HasBits words j test → ((b : ℕ) → b < 64 → (bit_at w b == 1) ≡ test (64 * j + b)) → HasBits (words ++ w ∷ []) (j + 1) test
HasBits-push words j w test h new = record {
  many = length-append words (w ∷ []) ∙ ap (λ n. n + 1) h.many;
  bits = λ i l.
      ⊎_elim
      (λ (below : i < 64 * j).
      let q : i / 64 < length words = rw h.many (omega arith) in
      ap (λ t. bit_at t (i % 64) == 1) (get_or_append_left words (w ∷ []) 0 (i / 64) q) ∙ h.bits i below)
      (λ (inside : (b : ℕ) × (b < 64) × (i ≡ 64 * j + b)).
      let at : bit_of (words ++ w ∷ []) (64 * j + inside.0) ≡ (bit_at w inside.0 == 1) =
      bit-in_word (words ++ w ∷ []) j inside.0 inside.1
      ∙ ap (λ t. bit_at t inside.0 == 1) (ap (λ n. get_or (words ++ w ∷ []) n 0) (sym h.many) ∙ get_or-append_seam words w [] 0) in
      ap (bit_of (words ++ w ∷ [])) inside.2 ∙ at ∙ new inside.0 inside.1 ∙ ap test (sym inside.2))
      (below-or_in j i l);
}

-- the row of a key over n positions, and which key that is
pub IsRow-from_bits : (n : ℕ) (words : List ℕ) (test : ℕ → Bool) → n ≤ 4096 → HasBits words (word_count n) test → ((i : ℕ) → n ≤ i → test i ≡ false) → IsRow n words
IsRow-from_bits n words test most h none = record { most = most; over = (h.many, λ i above within. h.bits i (rw (sym h.many) within) ∙ none i above) }

pub members-from_bits : (n : ℕ) (words : List ℕ) (test other : ℕ → Bool) → HasBits words (word_count n) test → ((p : ℕ) → 1 ≤ p → p ≤ n → test (p - 1) ≡ other p) → positions_where n (λ position. bit_of words (position - 1)) ≡ positions_where n other
members-from_bits n words test other h e =
    filter-range_agree _ _ 1 n (λ p low high. h.bits (p - 1) (omega arith) ∙ e p low (omega arith))

-- ---- a row of a range

order-flip : (x y : ℕ) → not (ltb x y) ≡ leb y x
order-flip x y =
    ⊎_elim (λ (l : x < y). rw (lt-ltb x y l) (sym (lt-leb y x l))) (λ (g : y ≤ x). rw (le-ltb x y g) (sym (le-leb y x g))) (cases_lt x y)

and-swap : (a b : Bool) → (a && b) ≡ (b && a)
and-swap true true = refl
and-swap true false = refl
and-swap false true = refl
and-swap false false = refl

pub range-bit : (e l i b low high : ℕ) → l < 2 ^ 64 → b < 64 → (bit_at e b == 1) ≡ ltb i high → (bit_at l b == 1) ≡ ltb i low → (bit_at (bit_and e (bit_not w64 l)) b == 1) ≡ (leb low i && ltb i high)
range-bit e l i b low high fits u f g =
    bit-without e l b fits u ∙ rw (f, g) (ap (λ t. ltb i high && t) (order-flip i low) ∙ and-swap (ltb i high) (leb low i))

pub range-none : (n low high i : ℕ) → high ≤ n → n ≤ i → (leb low i && ltb i high) ≡ false
range-none n low high i most above = rw (le-ltb i high (omega arith)) (and-swap (leb low i) false)

pub ones_to-all : (before end b : ℕ) → 64 ≤ end - before → b < 64 → (bit_at (2 ^ 64 - 1) b == 1) ≡ ltb (before + b) end
ones_to-all before end b all l = is_set-from (2 ^ 64 - 1) b (bit_at_ones 64 b l) ∙ sym (lt-ltb (before + b) end (omega arith))

pub ones_to-some : (before end count b : ℕ) → count ≡ min (end - before) 64 → b < 64 → (bit_at (2 ^ count - 1) b == 1) ≡ ltb (before + b) end
ones_to-some before end count b e l =
    ⊎_elim
    (λ (below : b < count). is_set-from (2 ^ count - 1) b (bit_at_ones count b below) ∙ sym (lt-ltb (before + b) end (omega arith)))
    (λ (above : count ≤ b). is_unset-from (2 ^ count - 1) b (bit_at_ones_above count b above) ∙ sym (le-ltb (before + b) end (omega arith)))
    (cases_lt b count)

-- ---- two rows, word by word

pub united-bit : (first second : List ℕ) (j b : ℕ) → b < 64 → (bit_at (bit_or (get_or first j 0) (get_or second j 0)) b == 1) ≡ (bit_of first (64 * j + b) || bit_of second (64 * j + b))
united-bit first second j b l = bit-or (get_or first j 0) (get_or second j 0) b ∙ rw (bit-in_word first j b l, bit-in_word second j b l) refl

pub difference-bit : (first second : List ℕ) (j b : ℕ) → get_or second j 0 < 2 ^ 64 → b < 64 → (bit_at (bit_and (get_or first j 0) (bit_not w64 (get_or second j 0))) b == 1) ≡ (bit_of first (64 * j + b) && not (bit_of second (64 * j + b)))
difference-bit first second j b fits l = bit-without (get_or first j 0) (get_or second j 0) b fits l ∙ rw (bit-in_word first j b l, bit-in_word second j b l) refl

and_true : (a b : Bool) → a ≡ true → b ≡ true → (a && b) ≡ true
and_true a b e f = rw (e, f) refl

-- a word without bits
unset-in_zero : (w b : ℕ) → w ≡ 0 → (bit_at w b == 1) ≡ false
unset-in_zero w b e = is_unset-from w b (ap (λ n. bit_at n b) e ∙ bit_at-zero b)

-- the lowest bit of a word that differs 0
pub lowest : (w : ℕ) → w < 2 ^ 64 → (w ≡ 0 → ⊥) → (b : ℕ) × (b < 64) × ((bit_at w b == 1) ≡ true)
lowest w fits some =
    let t = bit_at-trailing_zeros w64 w (omega arith) fits in
    (trailing_zeros w64 w, t.0, is_set-from w (trailing_zeros w64 w) t.1)

pub AreWithin-more : (first second : List ℕ) (j : ℕ) → get_or second j 0 < 2 ^ 64 → bit_and (get_or first j 0) (bit_not w64 (get_or second j 0)) ≡ 0 → AreWithin (64 * j) first second → AreWithin (64 * (j + 1)) first second
AreWithin-more first second j fits none h i l e =
    ⊎_elim
    (λ (below : i < 64 * j). h i below e)
    (λ (inside : (b : ℕ) × (b < 64) × (i ≡ 64 * j + b)).
    let b : ℕ = inside.0 in
    let out : (bit_of first (64 * j + b) && not (bit_of second (64 * j + b))) ≡ false =
    sym (difference-bit first second j b fits inside.1) ∙ unset-in_zero _ b none in
    let set : bit_of first (64 * j + b) ≡ true = ap (bit_of first) (sym inside.2) ∙ e in
    ap (bit_of second) inside.2
    ∙ ⊎_elim
    (λ (t : bit_of second (64 * j + b) ≡ true). t)
    (λ (f : bit_of second (64 * j + b) ≡ false). absurd (true≢false (sym (and_true _ _ set (ap not f)) ∙ out)))
    (cases_Bool (bit_of second (64 * j + b))))
    (below-or_in j i l)

pub AreWithin-not : (first second : List ℕ) (j count : ℕ) → j < count → get_or first j 0 < 2 ^ 64 → get_or second j 0 < 2 ^ 64 → (bit_and (get_or first j 0) (bit_not w64 (get_or second j 0)) ≡ 0 → ⊥) → ¬ AreWithin (64 * count) first second
AreWithin-not first second j count l fits_first fits some h =
    let w : ℕ = bit_and (get_or first j 0) (bit_not w64 (get_or second j 0)) in
    let small : w < 2 ^ 64 = omega (arith, and_le_l (get_or first j 0) (bit_not w64 (get_or second j 0)), fits_first) in
    let low = lowest w small some in
    let b : ℕ = low.0 in
    let both : (bit_of first (64 * j + b) && not (bit_of second (64 * j + b))) ≡ true = sym (difference-bit first second j b fits low.1) ∙ low.2 in
    let parts = and_parts _ _ both in
    let set : bit_of second (64 * j + b) ≡ true = h (64 * j + b) (omega (arith, low.1)) parts.0 in
    false≢true (ap not (sym set) ∙ parts.1)

pub apart-bit : (first second : List ℕ) (j b : ℕ) → b < 64 → (bit_at (bit_and (get_or first j 0) (get_or second j 0)) b == 1) ≡ (bit_of first (64 * j + b) && bit_of second (64 * j + b))
apart-bit first second j b l = bit-and (get_or first j 0) (get_or second j 0) b ∙ rw (bit-in_word first j b l, bit-in_word second j b l) refl

pub AreApart-more : (first second : List ℕ) (j : ℕ) → bit_and (get_or first j 0) (get_or second j 0) ≡ 0 → AreApart (64 * j) first second → AreApart (64 * (j + 1)) first second
AreApart-more first second j none h i l e =
    ⊎_elim
    (λ (below : i < 64 * j). h i below e)
    (λ (inside : (b : ℕ) × (b < 64) × (i ≡ 64 * j + b)).
    let b : ℕ = inside.0 in
    let out : (bit_of first (64 * j + b) && bit_of second (64 * j + b)) ≡ false =
    sym (apart-bit first second j b inside.1) ∙ unset-in_zero _ b none in
    let set : bit_of first (64 * j + b) ≡ true = ap (bit_of first) (sym inside.2) ∙ e in
    ap (bit_of second) inside.2
    ∙ ⊎_elim
    (λ (t : bit_of second (64 * j + b) ≡ true). absurd (true≢false (sym (and_true _ _ set t) ∙ out)))
    (λ (f : bit_of second (64 * j + b) ≡ false). f)
    (cases_Bool (bit_of second (64 * j + b))))
    (below-or_in j i l)

pub AreApart-not : (first second : List ℕ) (j count : ℕ) → j < count → get_or first j 0 < 2 ^ 64 → (bit_and (get_or first j 0) (get_or second j 0) ≡ 0 → ⊥) → ¬ AreApart (64 * count) first second
AreApart-not first second j count l fits_first some h =
    let w : ℕ = bit_and (get_or first j 0) (get_or second j 0) in
    let small : w < 2 ^ 64 = omega (arith, and_le_l (get_or first j 0) (get_or second j 0), fits_first) in
    let low = lowest w small some in
    let b : ℕ = low.0 in
    let both : (bit_of first (64 * j + b) && bit_of second (64 * j + b)) ≡ true = sym (apart-bit first second j b low.1) ∙ low.2 in
    let parts = and_parts _ _ both in
    let unset : bit_of second (64 * j + b) ≡ false = h (64 * j + b) (omega (arith, low.1)) parts.0 in
    false≢true (sym unset ∙ parts.1)

-- ---- one bit more

pub with_bit-row : (words : List ℕ) (bit : ℕ) → bit < 64 * length words → HasBits (set words (bit / 64) (bit_or (get_or words (bit / 64) 0) (1 * 2 ^ (bit % 64) % 2 ^ 64))) (length words) (λ i. bit_of words i || (bit == i))
with_bit-row words bit l =
    let q : ℕ = bit / 64 in
    let r : ℕ = bit % 64 in
    let inside : q < length words = omega arith in
    let small : r < 64 = omega arith in
    let old : ℕ = get_or words q 0 in
    let new : ℕ = bit_or old (1 * 2 ^ r % 2 ^ 64) in
    record {
      many = length-set words q new;
      bits = λ i h.
          ⊎_elim
          (λ (same : i / 64 ≡ q).
          let here : get_or (set words q new) (i / 64) 0 ≡ new = ap (λ k. get_or (set words q new) k 0) same ∙ get_or-set_same words q new 0 inside in
          ap (λ w. bit_at w (i % 64) == 1) here
          ∙ ⊎_elim
          (λ (it : i % 64 ≡ r).
          let is : bit ≡ i = omega (arith, (split i).0, (split bit).0) in
          ap (λ k. bit_at new k == 1) it ∙ is_set-from new r (bit_at_set_same w64 old r small) ∙ sym (rw (eq-eqb bit i is) (or-true (bit_of words i))))
          (λ (other : i % 64 ≡ r → ⊥).
          let differs : bit ≡ i → ⊥ = λ e. other (ap (λ k. k % 64) (sym e)) in
          ap (λ t. t == 1) (bit_at_set_other w64 old r small (i % 64) other)
          ∙ ap (λ k. bit_at (get_or words k 0) (i % 64) == 1) (sym same)
          ∙ sym (rw (ne_eqb bit i differs) (or-false (bit_of words i))))
          (cases_eq (i % 64) r))
          (λ (away : i / 64 ≡ q → ⊥).
          let differs : bit ≡ i → ⊥ = λ e. away (ap (λ k. k / 64) (sym e)) in
          ap (λ w. bit_at w (i % 64) == 1) (get_or-set_other words q (i / 64) new 0 away)
          ∙ sym (rw (ne_eqb bit i differs) (or-false (bit_of words i))))
          (cases_eq (i / 64) q);
    }

-- ---- how many bits are set

shifted : (t : ℕ → Bool) (first k : ℕ) → filter (λ p. t (p - first)) (range_with_len first (k + 1)) ≡ filter (λ p. t (p - first)) (range_with_len first k) ++ cond (t k) ((first + k) ∷ []) []
shifted t first k =
    let at : (first + k) - first ≡ k = omega arith in
    filter-range_push (λ p. t (p - first)) first k
    ∙ ap (λ n. filter (λ p. t (p - first)) (range_with_len first k) ++ cond (t n) ((first + k) ∷ []) []) at

length-cond : (b : Bool) (x : ℕ) → length (cond b (x ∷ []) []) ≡ cond b 1 0
length-cond true x = refl
length-cond false x = refl

ones-cond : (b : Bool) → count_ones (cond b 1 0) ≡ cond b 1 0
unfolding ones
ones-cond true = refl
ones-cond false = refl

ones-bits_where : (t : ℕ → Bool) (first k : ℕ) → count_ones (bits_where t k) ≡ length (filter (λ p. t (p - first)) (range_with_len first k))
unfolding ones
ones-bits_where t first zero = ap count_ones (bits_where-zero t)
ones-bits_where t first (suc k) =
    let one : suc k ≡ k + 1 = omega arith in
    let low : ℕ = bits_where t k in
    let is : bits_where t (k + 1) ≡ cond (t k) 1 0 * 2 ^ k + low =
    bits_where-push t k ∙ ap (λ n. low + n) (cond-mul (t k) (2 ^ k)) ∙ add_comm low (cond (t k) 1 0 * 2 ^ k) in
    ap (λ n. count_ones (bits_where t n)) one
    ∙ ap count_ones is
    ∙ ones_cat k (cond (t k) 1 0) low (bits_where-lt t k)
    ∙ rw (ones-cond (t k), ones-bits_where t first k) (add_comm (cond (t k) 1 0) _)
    ∙ ap (λ n. length (filter (λ p. t (p - first)) (range_with_len first k)) + n) (sym (length-cond (t k) (first + k)))
    ∙ sym (length-append (filter (λ p. t (p - first)) (range_with_len first k)) (cond (t k) ((first + k) ∷ []) []))
    ∙ ap length (sym (shifted t first k))
    ∙ ap (λ n. length (filter (λ p. t (p - first)) (range_with_len first n))) (sym one)

back-by_test : (n : ℕ) → n < 2 → cond (n == 1) 1 0 ≡ n
back-by_test zero l = refl
back-by_test (suc zero) l = refl
back-by_test (suc (suc n)) l = absurd (omega arith)

-- a word is what its bits say
word-by_bits : (w : ℕ) → w < 2 ^ 64 → w ≡ bits_where (λ b. bit_at w b == 1) 64
word-by_bits w fits =
    same_from_bits_below 64 w (bits_where (λ b. bit_at w b == 1) 64) fits (bits_where-lt (λ b. bit_at w b == 1) 64)
    (λ i l. sym (bit_at-bits_where (λ b. bit_at w b == 1) 64 i l ∙ back-by_test (bit_at w i) (bit_at-lt w i)))

pub count-word : (w first : ℕ) → w < 2 ^ 64 → count_ones w ≡ length (positions_to first w 64)
unfolding positions_to
count-word w first fits = ap count_ones (word-by_bits w fits) ∙ ones-bits_where (λ b. bit_at w b == 1) first 64

-- the members that the first words show
abbrev pub shown_by : List ℕ → ℕ → List ℕ
shown_by words count = filter (λ position. bit_of words (position - 1)) (range_with_len 1 (64 * count))

pub shown_by-more : (words : List ℕ) (j : ℕ) → shown_by words (j + 1) ≡ shown_by words j ++ positions_to (64 * j + 1) (get_or words j 0) 64
unfolding positions_to
shown_by-more words j =
    let test : ℕ → Bool = λ position. bit_of words (position - 1) in
    let whole : 64 * (j + 1) ≡ 64 * j + 64 = omega arith in
    let next : 1 + 64 * j ≡ 64 * j + 1 = omega arith in
    ap (λ n. filter test (range_with_len 1 n)) whole
    ∙ ap (filter test) (sym (range-append 1 (64 * j) 64))
    ∙ filter-append test (range_with_len 1 (64 * j)) (range_with_len (1 + 64 * j) 64)
    ∙ ap (λ n. shown_by words j ++ filter test (range_with_len n 64)) next
    ∙ ap (λ t. shown_by words j ++ t)
    (filter-range_agree test (λ p. bit_at (get_or words j 0) (p - (64 * j + 1)) == 1) (64 * j + 1) 64
    (λ p low high.
    let b : ℕ = p - (64 * j + 1) in
    let at : p - 1 ≡ 64 * j + b = omega arith in
    ap (bit_of words) at ∙ bit-in_word words j b (omega arith)))

cond-few : (b : Bool) (x : ℕ) (xs : List ℕ) (m : ℕ) → length xs ≤ m → length (cond b (x ∷ xs) xs) ≤ suc m
cond-few true x xs m l = omega arith
cond-few false x xs m l = omega arith

filter-few : (p : ℕ → Bool) (a m : ℕ) → length (filter p (range_with_len a m)) ≤ m
filter-few p a zero = omega arith
filter-few p a (suc m) =
    let rest : length (filter p (range_with_len (a + 1) m)) ≤ m = filter-few p (a + 1) m in
    cond-few (p a) a (filter p (range_with_len (a + 1) m)) m rest

pub shown_by-few : (words : List ℕ) (j : ℕ) → length (shown_by words j) ≤ 64 * j
shown_by-few words j = filter-few (λ position. bit_of words (position - 1)) 1 (64 * j)

-- a key's row shows its members
pub shown_by-members : (n : ℕ) (words : List ℕ) → IsRow n words → shown_by words (length words) ≡ positions_where n (λ position. bit_of words (position - 1))
shown_by-members n words h =
    let test : ℕ → Bool = λ position. bit_of words (position - 1) in
    let over : length words ≡ word_count n = h.over.0 in
    let past : ℕ = 64 * length words - n in
    let whole : 64 * length words ≡ n + past = omega arith in
    ap (λ m. filter test (range_with_len 1 m)) whole
    ∙ ap (filter test) (sym (range-append 1 n past))
    ∙ filter-append test (range_with_len 1 n) (range_with_len (1 + n) past)
    ∙ ap (λ t. positions_where n test ++ t)
    (filter-range_none test (1 + n) past (λ p low high. h.over.1 (p - 1) (omega arith) (omega arith)))
    ∙ append-nil (positions_where n test)

-- ---- the positions of a word, its lowest bit first

pub AreDone-none : (first word : ℕ) (before : List ℕ) → AreDone first word before before word 0
unfolding positions_to
AreDone-none first word before = (omega arith, sym (append-nil before), λ i l. absurd (omega arith), λ i l. refl)

positions_to-skip : (first word low high : ℕ) → low ≤ high → ((b : ℕ) → low ≤ b → b < high → bit_at word b ≡ 0) → positions_to first word high ≡ positions_to first word low
unfolding positions_to
positions_to-skip first word low high le none =
    let test : ℕ → Bool = λ p. bit_at word (p - first) == 1 in
    let more : ℕ = high - low in
    let whole : high ≡ low + more = omega arith in
    ap (λ m. filter test (range_with_len first m)) whole
    ∙ ap (filter test) (sym (range-append first low more))
    ∙ filter-append test (range_with_len first low) (range_with_len (first + low) more)
    ∙ ap (λ t. filter test (range_with_len first low) ++ t)
    (filter-range_none test (first + low) more (λ p l u. is_unset-from word (p - first) (none (p - first) (omega arith) (omega arith))))
    ∙ append-nil (filter test (range_with_len first low))

positions_to-set : (first word b : ℕ) → bit_at word b ≡ 1 → positions_to first word (b + 1) ≡ positions_to first word b ++ (first + b) ∷ []
unfolding positions_to
positions_to-set first word b e =
    shifted (λ k. bit_at word k == 1) first b
    ∙ ap (λ c. filter (λ p. bit_at word (p - first) == 1) (range_with_len first b) ++ cond c ((first + b) ∷ []) []) (is_set-from word b e)

abbrev pub cleared : ℕ → ℕ → ℕ
cleared rest b = bit_and rest (bit_not w64 (1 * 2 ^ b % 2 ^ 64))

pub AreDone-more : (first word : ℕ) (before now after : List ℕ) (rest done : ℕ) → rest < 2 ^ 64 → (rest ≡ 0 → ⊥) → AreDone first word before now rest done → after ≡ now ++ (first + trailing_zeros w64 rest) ∷ [] → AreDone first word before after (cleared rest (trailing_zeros w64 rest)) (trailing_zeros w64 rest + 1)
AreDone-more first word before now after rest done fits some h e =
    let b : ℕ = trailing_zeros w64 rest in
    let t = bit_at-trailing_zeros w64 rest (omega arith) fits in
    let small : b < 64 = t.0 in
    let done_below : done ≤ b = ⊎_elim (λ (l : b < done). absurd (zero≢one refl (h.2 b l) t.1)) (λ (g : done ≤ b). g) (cases_lt b done) in
    let set : bit_at word b ≡ 1 = sym (h.3 b done_below) ∙ t.1 in
    let skip : positions_to first word b ≡ positions_to first word done =
    positions_to-skip first word done b done_below (λ k l u. sym (h.3 k l) ∙ t.2 k u) in (
      omega arith,
      e ∙ ap (λ s. s ++ (first + b) ∷ []) (h.1 ∙ ap (λ s. before ++ s) (sym skip))
          ∙ append_assoc before (positions_to first word b) ((first + b) ∷ [])
          ∙ ap (λ s. before ++ s) (sym (positions_to-set first word b set)),
      λ i l.
          ⊎_elim
          (λ (same : i ≡ b). ap (bit_at (cleared rest b)) same ∙ bit_at_clear_same w64 rest b small)
          (λ (other : i ≡ b → ⊥). bit_at_clear_other w64 rest b small i (omega arith) other ∙ t.2 i (omega arith))
          (cases_eq i b),
      λ i l.
          ⊎_elim
          (λ (within : i < 64). bit_at_clear_other w64 rest b small i within (λ s. omega arith) ∙ h.3 i (omega arith))
          (λ (past : 64 ≤ i). bit_at_above (cleared rest b) 64 i (omega (arith, and_le_l rest (bit_not w64 (1 * 2 ^ b % 2 ^ 64)), fits)) past ∙ sym (bit_at_above rest 64 i fits past) ∙ h.3 i (omega arith))
          (cases_lt i 64),
    )

pub AreDone-less : (rest : ℕ) → rest < 2 ^ 64 → (rest ≡ 0 → ⊥) → cleared rest (trailing_zeros w64 rest) < rest
AreDone-less rest fits some =
    let b : ℕ = trailing_zeros w64 rest in
    let t = bit_at-trailing_zeros w64 rest (omega arith) fits in
    ⊎_elim
    (λ (same : cleared rest b ≡ rest). absurd (zero≢one refl (bit_at_clear_same w64 rest b t.0) (ap (λ n. bit_at n b) same ∙ t.1)))
    (λ (other : cleared rest b ≡ rest → ⊥). omega (arith, and_le_l rest (bit_not w64 (1 * 2 ^ b % 2 ^ 64))))
    (cases_eq (cleared rest b) rest)

pub AreDone-all : (first word : ℕ) (before now : List ℕ) (rest done : ℕ) → rest ≡ 0 → AreDone first word before now rest done → now ≡ before ++ positions_to first word 64
AreDone-all first word before now rest done e h =
    h.1 ∙ ap (λ s. before ++ s) (sym (positions_to-skip first word done 64 h.0 (λ b l u. sym (h.3 b l) ∙ ap (λ n. bit_at n b) e ∙ bit_at-zero b)))

-- ---- the order of two rows

even-pair : (x y : ℕ) → x < 2 → y < 2 → (x + y) % 2 ≡ 0 → x ≡ y
even-pair x y l m e = omega arith

odd-pair : (x y : ℕ) → x < 2 → y < 2 → (x + y) % 2 ≡ 1 → x ≡ 1 - y
odd-pair x y l m e = omega arith

differ : (first second : ℕ) → first < 2 ^ 64 → second < 2 ^ 64 → (first ≡ second → ⊥) → (bit_xor first second ≡ 0 → ⊥)
differ first second f s ne e =
    ne (same_from_bits_below 64 first second f s (λ i l.
    let none : (bit_at first i + bit_at second i) % 2 ≡ 0 = sym (bit_at_xor first second i) ∙ ap (λ n. bit_at n i) e ∙ bit_at-zero i in
    even-pair (bit_at first i) (bit_at second i) (bit_at-lt first i) (bit_at-lt second i) none))

xor-small : (first second : ℕ) → first < 2 ^ 64 → second < 2 ^ 64 → bit_xor first second < 2 ^ 64
xor-small first second f s = xor_lt 64 first second f s

pub differing : (first second : ℕ) → first < 2 ^ 64 → second < 2 ^ 64 → (first ≡ second → ⊥) → let b = trailing_zeros w64 (bit_xor first second) in (b < 64) × ((k : ℕ) → k < b → bit_at first k ≡ bit_at second k) × (bit_at first b ≡ 1 - bit_at second b)
differing first second f s ne =
    let w : ℕ = bit_xor first second in
    let some : w ≡ 0 → ⊥ = differ first second f s ne in
    let t = bit_at-trailing_zeros w64 w (omega arith) (xor-small first second f s) in (
      t.0,
      λ k l. even-pair (bit_at first k) (bit_at second k) (bit_at-lt first k) (bit_at-lt second k) (sym (bit_at_xor first second k) ∙ t.2 k l),
      odd-pair (bit_at first (trailing_zeros w64 w)) (bit_at second (trailing_zeros w64 w)) (bit_at-lt first _) (bit_at-lt second _) (sym (bit_at_xor first second (trailing_zeros w64 w)) ∙ t.1),
    )

pub in_second : (first second : ℕ) → first < 2 ^ 64 → second < 2 ^ 64 → (first ≡ second → ⊥) → bit_and (second / 2 ^ trailing_zeros w64 (bit_xor first second)) 1 ≡ 1 → IsInSecondWord first second (trailing_zeros w64 (bit_xor first second))
in_second first second f s ne e =
    let b : ℕ = trailing_zeros w64 (bit_xor first second) in
    let d = differing first second f s ne in
    let one : bit_at second b ≡ 1 = sym (shr_and_one second b) ∙ e in
    (d.0, d.1, d.2 ∙ ap (λ n. 1 - n) one, one)

pub in_first : (first second : ℕ) → first < 2 ^ 64 → second < 2 ^ 64 → (first ≡ second → ⊥) → (bit_and (second / 2 ^ trailing_zeros w64 (bit_xor first second)) 1 ≡ 1 → ⊥) → IsInSecondWord second first (trailing_zeros w64 (bit_xor first second))
in_first first second f s ne e =
    let b : ℕ = trailing_zeros w64 (bit_xor first second) in
    let d = differing first second f s ne in
    let none : bit_at second b ≡ 0 = ⊎_elim (λ (z : bit_at second b ≡ 0). z) (λ (o : bit_at second b ≡ 1). absurd (e (shr_and_one second b ∙ o))) (bit-cases second b) in
    (d.0, λ k l. sym (d.1 k l), none, d.2 ∙ ap (λ n. 1 - n) none)

pub IsInSecond-at : (first second : List ℕ) (j b : ℕ) → j < length first → ((k : ℕ) → k < j → get_or first k 0 ≡ get_or second k 0) → IsInSecondWord (get_or first j 0) (get_or second j 0) b → IsInSecond first second (64 * j + b)
IsInSecond-at first second j b l same h = (
  (λ k u.
      ⊎_elim
      (λ (below : k < 64 * j). ap (λ w. bit_at w (k % 64) == 1) (same (k / 64) (omega arith)))
      (λ (inside : (c : ℕ) × (c < 64) × (k ≡ 64 * j + c)).
      ap (bit_of first) inside.2 ∙ bit-in_word first j inside.0 inside.1
      ∙ ap (λ t. t == 1) (h.1 inside.0 (omega (arith, inside.2)))
      ∙ sym (ap (bit_of second) inside.2 ∙ bit-in_word second j inside.0 inside.1))
      (below-or_in j k (omega (arith, h.0)))),
  bit-in_word first j b h.0 ∙ is_unset-from (get_or first j 0) b h.2,
  bit-in_word second j b h.0 ∙ is_set-from (get_or second j 0) b h.3,
  omega (arith, h.0),
)

-- ---- rows with the same bits

same-bit : (x y b : ℕ) → (bit_at x b == 1) ≡ (bit_at y b == 1) → bit_at x b ≡ bit_at y b
same-bit x y b e =
    ⊎_elim
    (λ (z : bit_at x b ≡ 0). z ∙ sym (zero-from_unset y b (sym e ∙ is_unset-from x b z)))
    (λ (o : bit_at x b ≡ 1). o ∙ sym (one-from_set y b (sym e ∙ is_set-from x b o)))
    (bit-cases x b)

pub AreSame-word : (first second : List ℕ) (j count : ℕ) → j < count → get_or first j 0 < 2 ^ 64 → get_or second j 0 < 2 ^ 64 → AreSame (64 * count) first second → get_or first j 0 ≡ get_or second j 0
AreSame-word first second j count l small_first small_second h =
    same_from_bits_below 64 (get_or first j 0) (get_or second j 0) small_first small_second (λ b u.
    same-bit (get_or first j 0) (get_or second j 0) b (sym (bit-in_word first j b u) ∙ h (64 * j + b) (omega arith) ∙ bit-in_word second j b u))
