-- Seats of workers that begin and that are done.
use Rattle.std.specs.Prelude.{◌≡◌, false}
use Rattle.check_table.specs.Found.{IsIdle, IsRunning}
use Rattle.check_table.specs.Seats.{TableData, WorkerSees, IsWorkerOf}
use Rattle.check_table.specs.declared.view.WorkerView.{WorkerView}
use Rattle.workers.specs.Ending.{HasEnded}

-- it has no ticket and has met no end of the entries
abbrev pub IsFresh : WorkerView → Type 0
IsFresh worker = IsIdle worker × (worker.done ≡ false)

-- how a worker hands it back: it runs nothing, and met the end of the entries without a ticket or saw the stop. Such a seat may
-- leave the table; so may one without a ticket that has met neither
abbrev pub IsBack : TableData → WorkerSees → Type 0
IsBack table seat = IsWorkerOf table seat × (IsRunning seat.sees → ⊥) × HasEnded seat.sees
