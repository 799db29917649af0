-- What private functions answer on characters: classes, the reserved words by their length, and the marks by their first
-- characters. The proofs join these to the tables of `Words` and to `Pieces`.
use Rattle.std.specs.Prelude.{◌≡◌, ℕ, ◌<◌, ◌==◌, nat_le, nat_lt, Bool, false, not, ◌&&◌, if◌then◌else◌, List, length, filter, Option, Some, None}
use Rattle.std.specs.Char.{is_ascii_digit}
use Rattle.std.specs.Option.{option_map}
use Rattle.uvl_lex.specs.declared.class.Class.{Class}
use Rattle.uvl_lex.specs.declared.class.Class.TheVariants.{InLine, InName, Digit, Inside, Plain}
use Rattle.uvl_lex.specs.declared.token.Keyword.{Keyword as Word}
use Rattle.uvl_lex.specs.declared.token.Mark.{Mark as Sign}
use Rattle.uvl_lex.specs.declared.token.Mark.TheVariants.{Iff, Then, Equal, Unequal, AtMost, AtLeast, Dots, Bang, Amp, Bar, OpenRound, CloseRound, OpenSquare, CloseSquare, OpenCurly, CloseCurly, Comma, Dot, Star, Plus, Minus, Slash, Less, Greater, Assign, Colon, Semicolon}
use Rattle.uvl_lex.specs.Pieces.{is_blank, is_in_line, is_in_name, is_inside, starts_name, quote, apostrophe, dot}
use Rattle.uvl_lex.specs.Places.{line_feed}
use Rattle.uvl_lex.specs.Words.{spelling, keywords}

-- what stands between double quotes and is no dot
abbrev pub is_plain : ℕ → Bool
is_plain c = not (c == dot) && is_inside quote c

abbrev pub in_class : Class → ℕ → Bool
in_class InLine c = is_in_line c
in_class InName c = is_in_name c
in_class Digit c = is_ascii_digit c
in_class (Inside mark) c = is_inside mark c
in_class Plain c = is_plain c

-- an ASCII character of the class that is neither a tab nor an end of a line: it takes one byte and one column
abbrev pub is_column : Class → ℕ → Bool
is_column class c = (nat_le 32 c && nat_lt c 127) && in_class class c

abbrev pub has_len : ℕ → Word → Bool
has_len len word = length (spelling word) == len

-- the reserved words of this many bytes
unfoldable pub words_of_len : ℕ → List Word
words_of_len len = filter (has_len len) keywords

-- the mark that begins with the first character, by the next ones, and its length
abbrev pub less_of : ℕ → ℕ → Sign × ℕ
less_of second third = if second == 61 then (if third == 62 then (Iff, 3) else (AtMost, 2)) else (Less, 1)

abbrev pub equals_of : ℕ → Sign × ℕ
equals_of second = if second == 62 then (Then, 2) else if second == 61 then (Equal, 2) else (Assign, 1)

abbrev pub one_or_two : Sign → ℕ → ℕ → Sign → Sign × ℕ
one_or_two one second follows two = if second == follows then (two, 2) else (one, 1)

abbrev pub single_of : ℕ → Option Sign
single_of c =
    if c == 38 then Some Amp
    else if c == 124 then Some Bar
    else if c == 40 then Some OpenRound
    else if c == 41 then Some CloseRound
    else if c == 91 then Some OpenSquare
    else if c == 93 then Some CloseSquare
    else if c == 123 then Some OpenCurly
    else if c == 125 then Some CloseCurly
    else if c == 44 then Some Comma
    else if c == 42 then Some Star
    else if c == 43 then Some Plus
    else if c == 45 then Some Minus
    else if c == 47 then Some Slash
    else if c == 58 then Some Colon
    else if c == 59 then Some Semicolon
    else None

abbrev pub alone : Sign → Sign × ℕ
alone mark = (mark, 1)

abbrev pub mark_of : ℕ → ℕ → ℕ → Option (Sign × ℕ)
mark_of c second third =
    if c == 60 then Some (less_of second third)
    else if c == 61 then Some (equals_of second)
    else if c == 33 then Some (one_or_two Bang second 61 Unequal)
    else if c == 62 then Some (one_or_two Greater second 61 AtLeast)
    else if c == 46 then Some (one_or_two Dot second 46 Dots)
    else option_map alone (single_of c)

-- the character begins neither a blank, a line end, a comment, a name, a text nor a number
pub record BeginsNoOther (c : ℕ) : Type 0 where
  pub blank : is_blank c ≡ false
  pub line_end : (c == line_feed) ≡ false
  pub slash : (c == 47) ≡ false
  pub quotes : (c == quote) ≡ false
  pub single : (c == apostrophe) ≡ false
  pub digit : is_ascii_digit c ≡ false
  pub name : starts_name c ≡ false

-- a mark has one to three characters
abbrev pub IsWidth : ℕ → Type 0
IsWidth n = (0 < n) × (n < 4)
