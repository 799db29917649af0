-- Keys by their words.
use Rattle.std.proofs.Common.{◌≡◌, ℕ, ◌+◌, ◌*◌, ◌/◌, ◌<◌, ◌≤◌, cond, Bool, false, List, length, get_or, sym, refl, ap, ◌∙◌, subst, arith, ext_get_or, eqb}
use Rattle.std.specs.Prelude.{IsFalse, ◌==◌}
use Rattle.std.specs.Int.{bit_at}
use Rattle.std.proofs.lemmas.List.FromFn.{length-map-range_with_len, get_or-map-range_with_len}
use Rattle.req_keys.specs.Key.{PositionSet, IsKey}
use Rattle.req_keys.specs.Positions.{has}
use Rattle.req_keys.specs.Words.{word_count, word_of, words_of, key_of_words}
use Rattle.req_keys.proofs.WordLaws.{key_of_words-words_of, bit_at-bits_where}
use Rattle.req_keys.proofs.PositionsLaws.{has-high}
use Rattle.clauses.specs.Problem.{ClauseProblem}
use Rattle.check_table.specs.Places.{key_width, IsKeyOf}

pub width_is : (p : ClauseProblem) → key_width p ≡ word_count (length p.roots)
unfolding key_width
width_is p = refl

pub width_small : (n : ℕ) → n ≤ 4096 → (n + 63) / 64 ≤ 64
width_small n few = omega arith

-- the words of a key, one by one
pub word_in : (key : PositionSet) (j : ℕ) → j < word_count key.n → get_or (words_of key) j 0 ≡ word_of key j
word_in key j less = get_or-map-range_with_len (word_of key) 0 (word_count key.n) j j 0 less (omega arith)

pub words_long : (p : ClauseProblem) (key : PositionSet) → IsKeyOf p key → length (words_of key) ≡ key_width p
words_long p key k = length-map-range_with_len (word_of key) 0 (word_count key.n) ∙ ap word_count k.1 ∙ sym (width_is p)

pub word_at : (p : ClauseProblem) (key : PositionSet) (j : ℕ) → IsKeyOf p key → j < key_width p → get_or (words_of key) j 0 ≡ word_of key j
word_at p key j k less = word_in key j (subst (λ (m : ℕ). j < m) (width_is p ∙ ap word_count (sym k.1)) less)

-- a key is what its words show
pub key_back : (key : PositionSet) → IsKey key → key_of_words key.n (words_of key) ≡ key
key_back key k = let P : List ℕ → PositionSet = λ t. record { n = key.n; members = t } in ap P (key_of_words-words_of key.n key.members k.1)

pub key_shown : (p : ClauseProblem) (key : PositionSet) (words : List ℕ) → IsKeyOf p key → words ≡ words_of key → key_of_words (length p.roots) words ≡ key
key_shown p key words k is = (λ i. key_of_words (sym k.1 i) (is i)) ∙ key_back key k.0

-- keys with the same words are one
pub key_from_words : (p : ClauseProblem) (a b : PositionSet) → IsKeyOf p a → IsKeyOf p b → ((j : ℕ) → j < key_width p → word_of a j ≡ word_of b j) → a ≡ b
key_from_words p a b ka kb same = sym (key_shown p a (words_of a) ka refl)
    ∙ ap (key_of_words (length p.roots)) (ext_get_or 0 (words_of a) (words_of b) (words_long p a ka ∙ sym (words_long p b kb))
    (λ j less. let long = words_long p a ka in let within : j < key_width p = omega arith in word_at p a j ka within ∙ same j within ∙ sym (word_at p b j kb within)))
    ∙ key_shown p b (words_of b) kb refl

-- no bit stands for a position above n
pub no_bits : (p : ClauseProblem) (key : PositionSet) (j b : ℕ) → IsKeyOf p key → b < 64 → length p.roots ≤ 64 * j + b → IsFalse (bit_at (word_of key j) b == 1)
no_bits p key j b k small past = ap (λ (n : ℕ). eqb n 1) (bit_at-bits_where (λ c. has key.members (64 * j + c + 1)) 64 b small ∙ ap (λ (q : Bool). cond q 1 0) none)
  where
    none : has key.members (64 * j + b + 1) ≡ false
    none = let n = k.1 in has-high 0 key.n key.members (64 * j + b + 1) k.0.1 (omega arith)
