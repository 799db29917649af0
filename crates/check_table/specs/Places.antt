-- Where the words of the table stand, and what they say. Own to this project.
use Rattle.std.specs.Prelude.{◌≡◌, ℕ, ◌+◌, ◌*◌, ◌/◌, ◌%◌, Bool, true, false, length, Some, if◌then◌else◌, ◌==◌}
use Rattle.req_keys.specs.Key.{PositionSet, IsKey}
use Rattle.req_keys.specs.Words.{word_count}
use Rattle.req_keys.specs.declared.verdict.Verdict.{Verdict}
use Rattle.req_keys.specs.declared.verdict.Verdict.TheVariants as verdict
use Rattle.req_keys.specs.declared.verdict.Cell.{Cell}
use Rattle.req_keys.specs.declared.verdict.Cell.TheVariants as cell
use Rattle.clauses.specs.Problem.{ClauseProblem}
use Rattle.clauses.specs.Search.{verdict_on}

-- how many words a key of the problem has
unfoldable pub key_width : ClauseProblem → ℕ
key_width problem = word_count (length problem.roots)

-- word 0 is the cursor, word 1 the stop word. Of an entry, word 0 is the state word, and the words of its key come after it
unfoldable pub slot : ℕ → ℕ → ℕ → ℕ
slot width entry word = 2 + entry * (1 + width) + word

-- a key over the problem's positions
abbrev pub IsKeyOf : ClauseProblem → PositionSet → Type 0
IsKeyOf problem key = IsKey key × (key.n ≡ length problem.roots)

-- the verdict of the search on the problem for the key
unfoldable pub IsVerdictOf : ClauseProblem → PositionSet → Verdict → Type 0
IsVerdictOf problem key v = verdict_on problem key ≡ Some v

abbrev pub answer_code : Verdict → ℕ
answer_code verdict.Sat = 5
answer_code verdict.Unsat = 6
answer_code verdict.Limit = 7

abbrev pub base_code : Cell → ℕ
base_code cell.Empty = 0
base_code cell.Posted = 1
base_code (cell.Running worker) = 2 + 256 * worker
base_code cell.Mine = 3
base_code cell.GivenUp = 4
base_code (cell.Answered v) = answer_code v

-- the state word of a cell, with or without the cancel mark
abbrev pub code : Cell → Bool → ℕ
code c true = base_code c + 8
code c false = base_code c

-- what a state word says: its cell, and whether it has the mark
abbrev pub cell_of : ℕ → Cell
cell_of word =
    if word % 8 == 0 then cell.Empty
    else if word % 8 == 1 then cell.Posted
    else if word % 8 == 2 then cell.Running (word / 256)
    else if word % 8 == 3 then cell.Mine
    else if word % 8 == 4 then cell.GivenUp
    else if word % 8 == 5 then cell.Answered verdict.Sat
    else if word % 8 == 6 then cell.Answered verdict.Unsat
    else cell.Answered verdict.Limit

abbrev pub has_mark : ℕ → Bool
has_mark word = word / 8 % 2 == 1

-- the stop word
abbrev pub stop_code : Bool → ℕ
stop_code stopped = if stopped then 1 else 0
