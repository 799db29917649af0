-- Numbers on the command line: one to thirteen digits, without a zero in front of others (own to this project).
use Rattle.std.specs.Prelude.{ℕ, ◌==◌, ◌&&◌, not, nat_le, Bool, true, false, if◌then◌else◌, List, [], ◌∷◌, length, Option, Some, None}
use Rattle.std.specs.Str.{all_ascii_digits}
use Rattle.std.specs.Str.Parse.{digits_value}

-- it isn't empty, and no zero stands in front of another digit
abbrev pub is_plain : List ℕ → Bool
is_plain [] = false
is_plain (first ∷ []) = true
is_plain (first ∷ second ∷ rest) = not (first == 48)

abbrev pub is_number : List ℕ → Bool
is_number word = nat_le (length word) 13 && is_plain word && all_ascii_digits word

-- the number that a word writes
abbrev pub number_of : List ℕ → Option ℕ
number_of word = if is_number word then Some (digits_value 10 word) else None
