-- What is read off a board, and how a part of it is changed. Own to this project.
use Rattle.std.specs.Prelude.{ℕ, zero, suc, ◌-◌, Bool, true, false, List, [], replicate, ◌==◌, slice_get, slice_set, Option, None, is_some}
use Rattle.std.specs.List.{list_any}
use Rattle.req_keys.specs.declared.verdict.Cell.{Cell}
use Rattle.req_keys.specs.declared.verdict.Cell.TheVariants as cell
use Rattle.board.specs.declared.state.Entry.{Entry}
use Rattle.board.specs.declared.state.Board.{Board}

-- nothing is posted, no ticket drawn
abbrev pub fresh_board : ℕ → ℕ → Board
fresh_board workers size = record { entries = []; cursor = 0; tickets = replicate workers None; stopped = false; size = size }

-- the ticket of each worker, by its number, where there is such a worker
abbrev pub tickets_of : ℕ → List (Option ℕ) → Option (Option ℕ)
tickets_of zero tickets = None
tickets_of (suc before) tickets = slice_get tickets before

-- whether some worker has a ticket
abbrev pub some_ticket : List (Option ℕ) → Bool
some_ticket tickets = list_any is_some tickets

-- the worker has this ticket from now on, or none
abbrev pub with_ticket : ℕ → Option ℕ → Board → Board
with_ticket worker ticket board = record board { tickets = slice_set board.tickets (worker - 1) ticket }

-- the entry with this number is another one from now on
abbrev pub with_entry : ℕ → Entry → Board → Board
with_entry number entry board = record board { entries = slice_set board.entries number entry }

-- the cell of the entry with this number, which is `entry`, is another one from now on
abbrev pub with_cell : ℕ → Entry → Cell → Board → Board
with_cell number entry now board = with_entry number (record entry { cell = now }) board

abbrev pub is_posted : Cell → Bool
is_posted cell.Posted = true
is_posted other = false

abbrev pub is_mine : Cell → Bool
is_mine cell.Mine = true
is_mine other = false

-- the worker runs the entry
abbrev pub is_run_by : ℕ → Cell → Bool
is_run_by worker (cell.Running other) = other == worker
is_run_by worker other = false
