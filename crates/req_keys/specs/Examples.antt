-- Worked examples on keys. Each computes.
use Rattle.std.specs.Prelude.{◌≡◌, ℕ, true, false, List, [], ◌∷◌, refl}
use Rattle.std.specs.declared.cmp.Ordering.TheVariants.{Less, Equal, Greater}
use Rattle.req_keys.specs.Key.{PositionSet, empty_key, full_key, key_with, union_of, difference_of, is_subset_of, is_disjoint_of}
use Rattle.req_keys.specs.Order.{key_cmp}
use Rattle.req_keys.specs.Words.{bits_where, word_count, words_of, key_of_words}

-- a key over n positions
abbrev key_over : ℕ → List ℕ → PositionSet
key_over n members = record { n = n; members = members }

pub word-of_one_and_three : words_of (key_over 3 (1 ∷ 3 ∷ [])) ≡ 5 ∷ []
unfolding bits_where
word-of_one_and_three = refl

pub with-two : key_with (key_over 3 (1 ∷ 3 ∷ [])) 2 ≡ full_key 3
with-two = refl

-- a position that is a member stays one
pub with-member : key_with (key_over 3 (1 ∷ 3 ∷ [])) 3 ≡ key_over 3 (1 ∷ 3 ∷ [])
with-member = refl

pub union-with_two : union_of (key_over 3 (1 ∷ 3 ∷ [])) (key_over 3 (2 ∷ [])) ≡ full_key 3
union-with_two = refl

-- what stands in both stands once
pub union-overlap : union_of (key_over 4 (1 ∷ 3 ∷ [])) (key_over 4 (3 ∷ 4 ∷ [])) ≡ key_over 4 (1 ∷ 3 ∷ 4 ∷ [])
union-overlap = refl

pub minus-one : difference_of (key_over 3 (1 ∷ 3 ∷ [])) (key_over 3 (1 ∷ [])) ≡ key_over 3 (3 ∷ [])
minus-one = refl

-- what isn't in the first is no matter
pub minus-other : difference_of (key_over 3 (1 ∷ 3 ∷ [])) (key_over 3 (2 ∷ [])) ≡ key_over 3 (1 ∷ 3 ∷ [])
minus-other = refl

pub subset-yes : is_subset_of (key_over 3 (1 ∷ 3 ∷ [])) (full_key 3) ≡ true
subset-yes = refl

-- of as many members, but others
pub subset-no : is_subset_of (key_over 3 (1 ∷ 3 ∷ [])) (key_over 3 (1 ∷ 2 ∷ [])) ≡ false
subset-no = refl

pub subset-empty : is_subset_of (empty_key 3) (empty_key 3) ≡ true
subset-empty = refl

pub disjoint-yes : is_disjoint_of (key_over 3 (1 ∷ 3 ∷ [])) (key_over 3 (2 ∷ [])) ≡ true
disjoint-yes = refl

pub disjoint-no : is_disjoint_of (key_over 3 (1 ∷ 3 ∷ [])) (key_over 3 (2 ∷ 3 ∷ [])) ≡ false
disjoint-no = refl

-- fewer members first
pub order-fewer : key_cmp (key_over 4 (2 ∷ [])) (key_over 4 (1 ∷ 3 ∷ [])) ≡ Less
order-fewer = refl

-- 1 is the first position on which they differ, and it is in the second
pub order-first_difference : key_cmp (key_over 3 (2 ∷ [])) (key_over 3 (1 ∷ [])) ≡ Less
order-first_difference = refl

pub order-listing_1 : key_cmp (key_over 4 (3 ∷ 4 ∷ [])) (key_over 4 (2 ∷ 3 ∷ [])) ≡ Less
order-listing_1 = refl

pub order-listing_2 : key_cmp (key_over 4 (2 ∷ 3 ∷ [])) (key_over 4 (1 ∷ 4 ∷ [])) ≡ Less
order-listing_2 = refl

pub order-listing_3 : key_cmp (key_over 4 (1 ∷ 4 ∷ [])) (key_over 4 (1 ∷ 2 ∷ [])) ≡ Less
order-listing_3 = refl

pub order-same : key_cmp (key_over 4 (1 ∷ 4 ∷ [])) (key_over 4 (1 ∷ 4 ∷ [])) ≡ Equal
order-same = refl

-- keys of different n are ordered by n, whatever their members
pub order-by_n : key_cmp (key_over 4 []) (key_over 3 (1 ∷ 2 ∷ [])) ≡ Greater
order-by_n = refl

-- the words at and past the end of a word
pub word_counts : (word_count 0 ≡ 0) × (word_count 1 ≡ 1) × (word_count 64 ≡ 1) × (word_count 65 ≡ 2) × (word_count 128 ≡ 2) × (word_count 4096 ≡ 64)
word_counts = (refl, refl, refl, refl, refl, refl)

pub words-of_none : words_of (empty_key 0) ≡ []
unfolding bits_where
words-of_none = refl

pub words-of_64 : words_of (key_over 64 (64 ∷ [])) ≡ 0x8000_0000_0000_0000 ∷ []
unfolding bits_where
words-of_64 = refl

pub words-of_65 : words_of (key_over 65 (64 ∷ 65 ∷ [])) ≡ 0x8000_0000_0000_0000 ∷ 1 ∷ []
unfolding bits_where
words-of_65 = refl

pub words-of_full : words_of (full_key 65) ≡ 0xffff_ffff_ffff_ffff ∷ 1 ∷ []
unfolding bits_where
words-of_full = refl

-- and back
pub key-of_five : key_of_words 3 (5 ∷ []) ≡ key_over 3 (1 ∷ 3 ∷ [])
key-of_five = refl

pub key-of_65 : key_of_words 65 (0x8000_0000_0000_0001 ∷ 1 ∷ []) ≡ key_over 65 (1 ∷ 64 ∷ 65 ∷ [])
key-of_65 = refl
