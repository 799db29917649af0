-- Words of 64 bits by the positions that they show.
use Rattle.std.proofs.Common.{◌≡◌, ℕ, zero, suc, ◌+◌, ◌-◌, ◌*◌, ◌/◌, ◌%◌, ◌^◌, ◌<◌, ◌≤◌, ◌↔◌, Bool, true, false, cond, eqb, List, [], ◌∷◌, length, get_or, refl, sym, ◌∙◌, ap, arith, ⊎_elim, zero-add, add_comm}
use Rattle.std.specs.Prelude.{sum_by, IsBitSet, IsTrue, bit_and, ◌==◌}
use Rattle.std.specs.Int.{bit_at}
use Rattle.std.specs.List.{range_with_len}
use Rattle.std.proofs.lemmas.Nat.Bits.{bit_at_cat_low, bit_at_cat_high, bit_at-lt, bit_at_above, and_pow, shr_and_one, same_from_bits_below}
use Rattle.std.proofs.lemmas.Nat.{div-mul-add, mod-mul-add, pow_pos}
use Rattle.std.proofs.Math.Nat.{pow-suc, zero-mul, mul_comm}
use Rattle.std.proofs.lemmas.List.Sums.{sum_by-append}
use Rattle.std.proofs.lemmas.List.FromFn.{get_or-map-range_with_len, fill_by_all}
use Rattle.std.proofs.lemmas.Bool.{cases_lt, false≢true}
use Rattle.req_keys.specs.Positions.{RiseWithin, has, positions_where}
use Rattle.req_keys.specs.Key.{PositionSet}
use Rattle.req_keys.specs.Words.{bits_where, word_count, word_of, words_of, bit_of, key_of_words, IsRowOver}
use Rattle.lists.proofs.Ranges.{range_with_len-push}
use Rattle.req_keys.proofs.PositionsLaws.{has-filter_range, has-high, positions_where-has, filter-range_agree, RiseWithin-filter_range}

pub bits_where-zero : (t : ℕ → Bool) → bits_where t 0 ≡ 0
unfolding bits_where
bits_where-zero t = refl

pub bits_where-push : (t : ℕ → Bool) (k : ℕ) → bits_where t (k + 1) ≡ bits_where t k + cond (t k) (2 ^ k) 0
unfolding bits_where
bits_where-push t k =
    ap (sum_by (λ b. cond (t b) (2 ^ b) 0)) (range_with_len-push 0 k)
    ∙ sum_by-append (λ b. cond (t b) (2 ^ b) 0) (range_with_len 0 k) ((0 + k) ∷ [])
    ∙ rw (zero-add k, zero-add) refl

bits_where-suc : (t : ℕ → Bool) (k : ℕ) → bits_where t (suc k) ≡ bits_where t k + cond (t k) (2 ^ k) 0
bits_where-suc t k = let more : suc k ≡ k + 1 = omega arith in ap (bits_where t) more ∙ bits_where-push t k

cond-le : (b : Bool) (n : ℕ) → cond b n 0 ≤ n
cond-le true n = omega arith
cond-le false n = omega arith

pub bits_where-lt : (t : ℕ → Bool) (k : ℕ) → bits_where t k < 2 ^ k
bits_where-lt t zero = rw (bits_where-zero t) (omega arith)
bits_where-lt t (suc k) =
    let less : bits_where t k < 2 ^ k = bits_where-lt t k in
    let last : cond (t k) (2 ^ k) 0 ≤ 2 ^ k = cond-le (t k) (2 ^ k) in
    rw (bits_where-suc t k, pow-suc 2 k) (omega arith)

pub cond-mul : (b : Bool) (n : ℕ) → cond b n 0 ≡ cond b 1 0 * n
cond-mul true n = omega arith
cond-mul false n = omega arith

bit_at-cond : (b : Bool) → bit_at (cond b 1 0) 0 ≡ cond b 1 0
bit_at-cond true = refl
bit_at-cond false = refl

pub bit_at-bits_where : (t : ℕ → Bool) (k i : ℕ) → i < k → bit_at (bits_where t k) i ≡ cond (t i) 1 0
bit_at-bits_where t zero i l = absurd (omega arith)
bit_at-bits_where t (suc k) i l =
    let low : ℕ = bits_where t k in
    let is : bits_where t (suc k) ≡ cond (t k) 1 0 * 2 ^ k + low =
    bits_where-suc t k ∙ ap (λ n. low + n) (cond-mul (t k) (2 ^ k)) ∙ add_comm low (cond (t k) 1 0 * 2 ^ k) in
    ap (λ n. bit_at n i) is
    ∙ ⊎_elim
    (λ (lt : i < k). bit_at_cat_low (cond (t k) 1 0) k low i lt ∙ bit_at-bits_where t k i lt)
    (λ (ge : k ≤ i).
    let same : i ≡ k = omega arith in
    let none : i - k ≡ 0 = omega arith in
    bit_at_cat_high (cond (t k) 1 0) k low i (bits_where-lt t k) ge
    ∙ ap (λ j. bit_at (cond (t k) 1 0) j) none ∙ bit_at-cond (t k) ∙ ap (λ j. cond (t j) 1 0) (sym same))
    (cases_lt i k)

-- a bit is set where the test passes
pub IsBitSet-from_bit_at : (n k : ℕ) (b : Bool) → bit_at n k ≡ cond b 1 0 → IsBitSet n k ↔ IsTrue b
IsBitSet-from_bit_at n k true e =
    (λ _. refl, λ _ none. let value : bit_and n (2 ^ k) ≡ 1 * 2 ^ k = and_pow n k ∙ ap (λ m. m * 2 ^ k) e in let some : 0 < 2 ^ k = pow_pos k in omega arith)
IsBitSet-from_bit_at n k false e =
    (λ set. absurd (set (and_pow n k ∙ ap (λ m. m * 2 ^ k) e ∙ zero-mul (2 ^ k))), λ off. absurd (false≢true off))

-- a bit that is 0 or 1 is what its test says
bit_by_test : (n : ℕ) → n < 2 → cond (eqb n 1) 1 0 ≡ n
bit_by_test zero l = refl
bit_by_test (suc zero) l = refl
bit_by_test (suc (suc n)) l = absurd (omega arith)

-- the test of the bit, as the program makes it
pub bit_of-test : (words : List ℕ) (i : ℕ) → (bit_and (get_or words (i / 64) 0 / 2 ^ (i % 64)) 1 == 1) ≡ bit_of words i
bit_of-test words i = ap (λ b. b == 1) (shr_and_one (get_or words (i / 64) 0) (i % 64))

pub place : (j b : ℕ) → b < 64 → ((64 * j + b) / 64 ≡ j) × ((64 * j + b) % 64 ≡ b)
place j b l =
    let turn : 64 * j ≡ j * 64 = mul_comm 64 j in
    (ap (λ m. (m + b) / 64) turn ∙ div-mul-add j 64 b l, ap (λ m. (m + b) % 64) turn ∙ mod-mul-add j 64 b l)

word_count-bound : (n k i : ℕ) → k < word_count n → i < 64 → 64 * k + i < 64 * word_count n
word_count-bound n k i l u = omega arith

-- bit i of word k of the key that a row shows
pub bit-of_row : (n : ℕ) (words : List ℕ) → IsRowOver n words → (k i : ℕ) → k < word_count n → i < 64 → has (positions_where n (λ position. bit_of words (position - 1))) (64 * k + i + 1) ≡ bit_of words (64 * k + i)
bit-of_row n words row k i l u =
    let test : ℕ → Bool = λ position. bit_of words (position - 1) in
    let at : (64 * k + i + 1) - 1 ≡ 64 * k + i = omega arith in
    let inside : 64 * k + i < 64 * length words = rw row.0 (word_count-bound n k i l u) in
    ⊎_elim
    (λ (within : 64 * k + i < n). has-filter_range test 1 n (64 * k + i + 1) (omega arith) (omega arith) ∙ ap (bit_of words) at)
    (λ (past : n ≤ 64 * k + i).
    has-high 0 n (positions_where n test) (64 * k + i + 1) (RiseWithin-filter_range test 1 n 0 n (omega arith) (omega arith)) (omega arith)
    ∙ sym (row.1 (64 * k + i) past inside))
    (cases_lt (64 * k + i) n)

pub word-of_row : (n : ℕ) (words : List ℕ) → IsRowOver n words → (k : ℕ) → get_or words k 0 < 2 ^ 64 → k < word_count n → get_or words k 0 ≡ word_of (key_of_words n words) k
word-of_row n words row k small l =
    let t : ℕ → Bool = λ b. has (positions_where n (λ position. bit_of words (position - 1))) (64 * k + b + 1) in
    same_from_bits_below 64 _ _ small (bits_where-lt t 64)
    (λ i u.
    sym (bit_at-bits_where t 64 i u
    ∙ ap (λ b. cond b 1 0) (bit-of_row n words row k i l u)
    ∙ ap (λ q. cond (bit_at (get_or words q 0) ((64 * k + i) % 64) == 1) 1 0) (place k i u).0
    ∙ ap (λ r. cond (bit_at (get_or words k 0) r == 1) 1 0) (place k i u).1
    ∙ bit_by_test (bit_at (get_or words k 0) i) (bit_at-lt (get_or words k 0) i)))

-- a row of words is that of the key that it shows
pub words_of-key_of_words : (n : ℕ) (words : List ℕ) → IsRowOver n words → ((k : ℕ) → k < length words → get_or words k 0 < 2 ^ 64) → words_of (key_of_words n words) ≡ words
words_of-key_of_words n words row small =
    sym (fill_by_all (word_of (key_of_words n words)) words (word_count n) 0 row.0 (λ k l. word-of_row n words row k (small k (rw row.0 l)) l))

bit-by_test_back : (b : Bool) → (cond b 1 0 == 1) ≡ b
bit-by_test_back true = refl
bit-by_test_back false = refl

bit-of_words : (key : PositionSet) (p : ℕ) → 1 ≤ p → p ≤ key.n → bit_of (words_of key) (p - 1) ≡ has key.members p
bit-of_words key p low high =
    let i : ℕ = p - 1 in
    let q : ℕ = i / 64 in
    let r : ℕ = i % 64 in
    let t : ℕ → Bool = λ b. has key.members (64 * q + b + 1) in
    let within : q < word_count key.n = omega arith in
    let small : r < 64 = omega arith in
    let whole : 64 * q + r + 1 ≡ p = omega arith in
    ap (λ w. bit_at w r == 1) (get_or-map-range_with_len (word_of key) 0 (word_count key.n) q q 0 within (zero-add q))
    ∙ ap (λ b. b == 1) (bit_at-bits_where t 64 r small)
    ∙ bit-by_test_back (t r)
    ∙ ap (has key.members) whole

-- a key is what its words show
pub key_of_words-words_of : (n : ℕ) (members : List ℕ) → RiseWithin 0 n members → positions_where n (λ position. bit_of (words_of (record { n = n; members = members })) (position - 1)) ≡ members
key_of_words-words_of n members h =
    let key : PositionSet = record { n = n; members = members } in
    filter-range_agree (λ position. bit_of (words_of key) (position - 1)) (has members) 1 n
    (λ p l u. bit-of_words key p l (omega arith))
    ∙ positions_where-has n 0 members h

-- one word below 2 ^ n is a row over n positions
pub IsRowOver-one : (n word : ℕ) → 1 ≤ n → n ≤ 64 → word < 2 ^ n → IsRowOver n (word ∷ [])
IsRowOver-one n word low high less = (
  one_word,
  λ i from below.
      let first : i / 64 ≡ 0 = omega arith in
      let rest : i % 64 ≡ i = omega arith in
      ap (λ q. bit_at (get_or (word ∷ []) q 0) (i % 64) == 1) first
      ∙ ap (λ r. bit_at word r == 1) rest
      ∙ ap (λ b. b == 1) (bit_at_above word n i less from),
)
  where
    one_word : 1 ≡ word_count n
    one_word = omega arith
