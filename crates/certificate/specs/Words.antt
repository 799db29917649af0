-- The lines of a certificate, and what the words of a line say. Own to this project.
use Rattle.std.specs.Prelude.{ℕ, ◌-◌, ◌==◌, ◌&&◌, not, nat_le, nat_lt, Bool, true, false, if◌then◌else◌, List, [], ◌∷◌, map, Option, Some, None, codes}
use Rattle.std.specs.List.{range_with_len, slice_split}
use Rattle.std.specs.Option.{option_and_then, option_map}
use Rattle.std.specs.Str.{all_ascii_digits, bytes_eq}
use Rattle.std.specs.Str.Parse.{digits_value}
use Rattle.clauses.specs.declared.literal.Lit.{Lit}
use Rattle.clauses.specs.Clause.{negative_of, positive_of}
use Rattle.req_keys.specs.Positions.{has}

-- ---- lines and words

-- an empty part at the end is no line
abbrev pub without_empty_end : List (List ℕ) → List (List ℕ)
without_empty_end [] = []
without_empty_end ([] ∷ []) = []
without_empty_end (part ∷ parts) = part ∷ without_empty_end parts

-- the lines of a file: what stands before each line feed, and what stands behind the last one
abbrev pub lines_of : List ℕ → List (List ℕ)
lines_of bytes = without_empty_end (slice_split (λ byte. byte == 10) bytes)

-- the words of a line stand between its blanks; where two blanks touch, there is an empty word between them
abbrev pub words_of : List ℕ → List (List ℕ)
words_of line = slice_split (λ byte. byte == 32) line

-- the words behind the first one, if that is this word
abbrev pub words_after : List ℕ → List (List ℕ) → Option (List (List ℕ))
words_after word [] = None
words_after word (first ∷ others) = if bytes_eq first word then Some others else None

-- ---- numbers

-- it isn't empty, and doesn't begin with a zero
abbrev pub is_plain : List ℕ → Bool
is_plain [] = false
is_plain (first ∷ rest) = not (first == 48)

-- the number that the word writes in decimal; there is no word for 0
abbrev pub number_of : List ℕ → Option ℕ
number_of word = if is_plain word && all_ascii_digits word then Some (digits_value 10 word) else None

-- the number, if it isn't above this one
abbrev pub up_to : ℕ → ℕ → Option ℕ
up_to most number = if nat_le number most then Some number else None

abbrev pub number_within : ℕ → List ℕ → Option ℕ
number_within most word = option_and_then (up_to most) (number_of word)

-- ---- lists

-- the number with those behind it, if it is above the one before it
abbrev pub above : ℕ → ℕ → Option (List ℕ) → Option (List ℕ)
above low number others = if nat_lt low number then option_map (λ numbers. number ∷ numbers) others else None

-- the numbers that the words write, if each is above the one before it, the first above `low`, and none above `most`
abbrev pub rising_from : ℕ → ℕ → List (List ℕ) → Option (List ℕ)
rising_from low most [] = Some []
rising_from low most (word ∷ words) = option_and_then (λ number. above low number (rising_from number most words)) (number_within most word)

-- a list of numbers from 1 to `most`: ascending numbers, at least one, or the word `none`
abbrev pub list_of : ℕ → List (List ℕ) → Option (List ℕ)
list_of most [] = None
list_of most (word ∷ []) = if bytes_eq word (codes "none") then Some [] else rising_from 0 most (word ∷ [])
list_of most (word ∷ words) = rising_from 0 most (word ∷ words)

-- the list of a line that begins with this word
abbrev pub list_in : List ℕ → ℕ → List ℕ → Option (List ℕ)
list_in word most line = option_and_then (list_of most) (words_after word (words_of line))

-- the set of these features, of so many. They count from 1
abbrev pub set_of : ℕ → List ℕ → List Bool
set_of count numbers = map (has numbers) (range_with_len 1 count)

-- the features of a line `product`, of so many
abbrev pub product_in : ℕ → List ℕ → Option (List Bool)
product_in count line = option_map (set_of count) (list_in (codes "product") count line)

-- ---- clauses

-- the literal that a word writes, over so many variables. They count from 1, and `-` negates
abbrev pub literal_of : ℕ → List ℕ → Option Lit
literal_of variables [] = None
literal_of variables (first ∷ rest) =
    if first == 45 then option_map (λ number. negative_of (number - 1)) (number_within variables rest)
    else option_map (λ number. positive_of (number - 1)) (number_within variables (first ∷ rest))

-- the literal with those behind it
abbrev pub before : Lit → Option (List Lit) → Option (List Lit)
before literal others = option_map (λ literals. literal ∷ literals) others

abbrev pub literals_of : ℕ → List (List ℕ) → Option (List Lit)
literals_of variables [] = Some []
literals_of variables (word ∷ words) = option_and_then (λ literal. before literal (literals_of variables words)) (literal_of variables word)

-- literals in any order, at least one
abbrev pub clause_of : ℕ → List (List ℕ) → Option (List Lit)
clause_of variables [] = None
clause_of variables (word ∷ words) = literals_of variables (word ∷ words)

-- what a line of a derivation says
pub data Saying : Type 0 where
  -- this clause follows
  Learns : List Lit → Saying
  -- nothing is left to follow
  Clashes : Saying
  -- it begins as such a line, and has another form
  Malformed : Saying
  -- it isn't a line of a derivation
  Foreign : Saying

abbrev pub learning : Option (List Lit) → Saying
learning None = Malformed
learning (Some clause) = Learns clause

abbrev pub clashing : List (List ℕ) → Saying
clashing [] = Clashes
clashing (word ∷ words) = Malformed

abbrev pub said_by : ℕ → List (List ℕ) → Saying
said_by variables [] = Foreign
said_by variables (first ∷ others) = elim (bytes_eq first (codes "learn")) [
  | true ↦ learning (clause_of variables others)
  | false ↦ if bytes_eq first (codes "clash") then clashing others else Foreign
]

-- what the line says over so many variables
abbrev pub saying_of : ℕ → List ℕ → Saying
saying_of variables line = said_by variables (words_of line)
