-- A key as a row of words of 64 bits. Own to this project.
use Rattle.std.specs.Prelude.{◌≡◌, ℕ, ◌+◌, ◌-◌, ◌*◌, ◌/◌, ◌%◌, ◌^◌, ◌<◌, ◌≤◌, Bool, IsFalse, List, length, ◌++◌, flat_map, map, sum_by, slice_index, if◌then◌else◌, ◌==◌}
use Rattle.std.specs.Hash as fed
use Rattle.std.specs.Int.{bit_at}
use Rattle.std.specs.List.{range_with_len}
use Rattle.req_keys.specs.Key.{PositionSet, key_where}
use Rattle.req_keys.specs.Positions.{has}

-- how many words a key over n positions has: n / 64, rounded up
abbrev pub word_count : ℕ → ℕ
word_count n = (n + 63) / 64

-- the number whose bits below k are those that pass the test
unfoldable pub bits_where : (ℕ → Bool) → ℕ → ℕ
bits_where test k = sum_by (λ b. if test b then 2 ^ b else 0) (range_with_len 0 k)

-- word j of a key: bit b is set exactly where position 64 * j + b + 1 is a member
abbrev pub word_of : PositionSet → ℕ → ℕ
word_of key j = bits_where (λ b. has key.members (64 * j + b + 1)) 64

-- all words of a key, in order
abbrev pub words_of : PositionSet → List ℕ
words_of key = map (word_of key) (range_with_len 0 (word_count key.n))

-- whether a bit of the row is set, the bits of its first word first: bit i % 64 of word i / 64
abbrev pub bit_of : List ℕ → ℕ → Bool
bit_of words i = bit_at (slice_index words (i / 64)) (i % 64) == 1

-- the row may be that of a key over n positions: it has the words, and no bit stands for a position above n
abbrev pub IsRowOver : ℕ → List ℕ → Type 0
IsRowOver n words =
    (length words ≡ word_count n) × ((i : ℕ) → n ≤ i → i < 64 * length words → IsFalse (bit_of words i))

-- the key that a row shows: position i + 1 is a member where bit i is set
abbrev pub key_of_words : ℕ → List ℕ → PositionSet
key_of_words n words = key_where n (λ position. bit_of words (position - 1))

-- what a key feeds a hasher: n, and then its words
abbrev pub key_hash : PositionSet → List (List ℕ)
key_hash key = fed.u32 key.n ++ flat_map fed.u64 (words_of key)
