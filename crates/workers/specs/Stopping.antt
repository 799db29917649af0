-- What a contract sees of a worker's seat as the stop of its search. Own to this project.
use Rattle.std.specs.Prelude.{ℕ, ◌+◌, Bool, min, if◌then◌else◌}
use Rattle.lists.specs.Rising.{LAST}
use Rattle.check_table.specs.Seats.{TableData, WorkerSees}

-- the table, the seat while a search runs, and how often the search was told to stop
pub record Stopping : Type 0 where
  pub table : TableData
  pub seat : WorkerSees
  pub raised : ℕ

-- the count after an answer: it rises where the answer was to stop, up to the last number of 64 bits
abbrev pub counted : Bool → ℕ → ℕ
counted answer raised = if answer then min (raised + 1) LAST else raised
