-- The board that the words and the views of a table stand for.
use Rattle.std.specs.Prelude.{ℕ, ◌+◌, min, List, [], ◌∷◌, map, slice_index, if◌then◌else◌, ◌==◌, Option, Some, None}
use Rattle.std.specs.List.{range_with_len}
use Rattle.clauses.specs.Problem.{ClauseProblem}
use Rattle.board.specs.declared.state.Entry.{Entry}
use Rattle.board.specs.declared.state.Board.{Board}
use Rattle.check_table.specs.Places.{key_width, slot, cell_of, has_mark}
use Rattle.check_table.specs.Rule.{TableState}
use Rattle.check_table.specs.declared.view.KnownEntry.{KnownEntry}
use Rattle.check_table.specs.declared.view.Stage.{Stage}
use Rattle.check_table.specs.declared.view.Stage.TheVariants.{Idle, Holds, Runs}
use Rattle.check_table.specs.declared.view.View.{View}
use Rattle.check_table.specs.declared.view.View.TheVariants.{Main, Worker, Spent}

-- the state word of an entry
abbrev pub state_word : ClauseProblem → List ℕ → ℕ → ℕ
state_word p words t = slice_index words (slot (key_width p) t 0)

-- the main seat's keys, each with the cell and the mark of its state word
abbrev pub entry_read : ℕ → KnownEntry → Entry
entry_read word e = record { key = e.key; cell = cell_of word; cancelled = has_mark word }

abbrev pub entries_read : ClauseProblem → List ℕ → ℕ → List KnownEntry → List Entry
entries_read p words t [] = []
entries_read p words t (e ∷ es) = entry_read (state_word p words t) e ∷ entries_read p words (t + 1) es

-- what the main seat knows of the entries; its view is the first
abbrev pub known_in : List View → List KnownEntry
known_in (Main m ∷ vs) = m.entries
known_in (Worker w ∷ vs) = []
known_in (Spent ∷ vs) = []
known_in [] = []

-- the ticket in the view of the worker with this number; a worker without a seat has none
abbrev pub ticket_if : Stage → Option ℕ
ticket_if Idle = None
ticket_if (Holds t) = Some t
ticket_if (Runs t read) = Some t

abbrev pub ticket_by_number : List View → ℕ → Option ℕ
ticket_by_number [] n = None
ticket_by_number (Main m ∷ vs) n = ticket_by_number vs n
ticket_by_number (Spent ∷ vs) n = ticket_by_number vs n
ticket_by_number (Worker w ∷ vs) n = if w.number == n then ticket_if w.stage else ticket_by_number vs n

-- 64 workers; the cursor stands at the number of entries once it has passed them
abbrev pub board_of : ClauseProblem → ℕ → TableState → Board
board_of p size s = record {
  entries = entries_read p s.words 0 (known_in s.views);
  cursor = min (slice_index s.words 0) size;
  tickets = map (ticket_by_number s.views) (range_with_len 1 64);
  stopped = slice_index s.words 1 == 1;
  size = size;
}
