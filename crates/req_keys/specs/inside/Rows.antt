-- Rows of words, as a key keeps them.
use Rattle.std.specs.Prelude.{◌≡◌, ℕ, ◌-◌, ◌*◌, ◌<◌, ◌≤◌, ◌==◌, Bool, true, false, List, ◌++◌, filter, length}
use Rattle.std.specs.Int.{bit_at}
use Rattle.std.specs.List.{range_with_len}
use Rattle.std.specs.declared.cmp.Ordering.{Ordering}
use Rattle.std.specs.declared.cmp.Ordering.TheVariants.{Less, Equal, Greater}
use Rattle.req_keys.specs.Words.{bit_of, IsRowOver}

-- the words are those of a key over n positions
pub record IsRow (n : ℕ) (words : List ℕ) : Type 0 where
  pub most : n ≤ 4096
  pub over : IsRowOver n words

-- a row of so many words has just the bits that pass the test
pub record HasBits (words : List ℕ) (count : ℕ) (test : ℕ → Bool) : Type 0 where
  pub many : length words ≡ count
  pub bits : (i : ℕ) → i < 64 * count → bit_of words i ≡ test i

-- the rows have the same bits below this one
abbrev pub AreSame : ℕ → List ℕ → List ℕ → Type 0
AreSame end first second = (i : ℕ) → i < end → bit_of first i ≡ bit_of second i

-- each bit below this one that is set in the first row is set in the second
abbrev pub AreWithin : ℕ → List ℕ → List ℕ → Type 0
AreWithin end first second = (i : ℕ) → i < end → bit_of first i ≡ true → bit_of second i ≡ true

-- no bit below this one is set in both rows
abbrev pub AreApart : ℕ → List ℕ → List ℕ → Type 0
AreApart end first second = (i : ℕ) → i < end → bit_of first i ≡ true → bit_of second i ≡ false

-- the rows have the same bits below this one, which is set in the second alone
abbrev pub IsInSecond : List ℕ → List ℕ → ℕ → Type 0
IsInSecond first second i =
    ((k : ℕ) → k < i → bit_of first k ≡ bit_of second k) × (bit_of first i ≡ false) × (bit_of second i ≡ true)
    × (i < 64 * length first)

-- what the order of two rows with as many bits says: the first bit on which they differ is in the second, or in the
-- first, or there is none
abbrev pub SaysOrder : List ℕ → List ℕ → Ordering → Type 0
SaysOrder first second Less = (i : ℕ) × IsInSecond first second i
SaysOrder first second Equal = first ≡ second
SaysOrder first second Greater = (i : ℕ) × IsInSecond second first i

-- the words have the same bits below this one, which is set in the second alone
abbrev pub IsInSecondWord : ℕ → ℕ → ℕ → Type 0
IsInSecondWord first second b =
    (b < 64) × ((k : ℕ) → k < b → bit_at first k ≡ bit_at second k) × (bit_at first b ≡ 0) × (bit_at second b ≡ 1)

-- what the order of two words that differ says
abbrev pub SaysWordOrder : ℕ → ℕ → Ordering → Type 0
SaysWordOrder first second Less = (b : ℕ) × IsInSecondWord first second b
SaysWordOrder first second Equal = ⊥
SaysWordOrder first second Greater = (b : ℕ) × IsInSecondWord second first b

-- the positions of a word whose lowest bit stands for `first`, as far as its first `count` bits go
unfoldable pub positions_to : ℕ → ℕ → ℕ → List ℕ
positions_to first word count = filter (λ position. bit_at word (position - first) == 1) (range_with_len first count)

-- so many bits of the word are done: their positions were appended, and the rest has just the others
abbrev pub AreDone : ℕ → ℕ → List ℕ → List ℕ → ℕ → ℕ → Type 0
AreDone first word before now rest done =
    (done ≤ 64) × (now ≡ before ++ positions_to first word done) × ((i : ℕ) → i < done → bit_at rest i ≡ 0)
    × ((i : ℕ) → done ≤ i → bit_at rest i ≡ bit_at word i)
