-- How a worker ends. Own to this project.
use Rattle.std.specs.Prelude.{◌≡◌, ◌⊎◌, true}
use Rattle.check_table.specs.Found.{IsIdle}
use Rattle.check_table.specs.declared.view.WorkerView.{WorkerView}

-- it met the end of the entries and has no ticket, or it saw the stop
abbrev pub HasEnded : WorkerView → Type 0
HasEnded w = ((w.done ≡ true) × IsIdle w) ⊎ (w.saw_stop ≡ true)
