-- What the types of seats keep at run time beside their views.
use Rattle.std.specs.Prelude.{◌≡◌, ℕ, ◌<◌, ◌≤◌, Bool, true, false, [], length}
use Rattle.req_keys.specs.declared.verdict.Cell.{Cell}
use Rattle.req_keys.specs.declared.verdict.Cell.TheVariants.{Empty, Mine}
use Rattle.clauses.specs.Problem.{ClauseProblem}
use Rattle.check_table.specs.Views.{no_trace}
use Rattle.check_table.specs.Rule.{opened}
use Rattle.check_table.specs.Seats.{TableData, MainSees}
use Rattle.check_table.specs.Steps.{Seat}
use Rattle.check_table.specs.declared.view.MainView.{MainView}
use Rattle.check_table.specs.declared.view.WorkerView.{WorkerView}
use Rattle.check_table.specs.declared.view.Stage.{Stage}
use Rattle.check_table.specs.declared.view.Stage.TheVariants.{Idle, Holds, Runs}
use Rattle.check_table.specs.declared.view.View.{View}
use Rattle.check_table.specs.declared.view.View.TheVariants.{Main, Worker, Spent}

abbrev no_problem : ClauseProblem
no_problem = record { variables = 0; features = 0; clauses = []; roots = []; allowance = 0; rungs = 0 }

-- the view of a main seat, or of a worker's; the invariants of the seats shut out the other cases
abbrev pub main_of : View → MainView
main_of (Main m) = m
main_of (Worker w) = opened no_problem 0
main_of Spent = opened no_problem 0

abbrev no_worker : WorkerView
no_worker = record { problem = no_problem; size = 0; number = 0; stage = Idle; done = true; saw_stop = true; saw_mark = true; trace = no_trace }

abbrev pub worker_of : View → WorkerView
worker_of (Worker w) = w
worker_of (Main m) = no_worker
worker_of Spent = no_worker

-- the main seat has number 0, and keeps how many entries are posted and how many workers were made
abbrev pub MainKept : ℕ → Seat → ℕ → ℕ → MainView → Type 0
MainKept id me posted made m = (id ≡ 0) × (me ≡ (Main m, [])) × (posted ≡ length m.entries) × (made ≡ m.made) × (posted ≤ m.size) × (made ≤ 64)

-- the ticket is that of the stage
abbrev pub TicketIs : ℕ → ℕ → Stage → Type 0
TicketIs ticket size Idle = Unit {0}
TicketIs ticket size (Holds t) = (t ≡ ticket) × (t < size)
TicketIs ticket size (Runs t read) = (t ≡ ticket) × (t < size)

abbrev pub RunningIs : Bool → Stage → Type 0
RunningIs running Idle = running ≡ false
RunningIs running (Holds t) = running ≡ false
RunningIs running (Runs t read) = running ≡ true

-- the seat is this table's, perhaps with some words of a next key written
abbrev pub IsMainIn : TableData → MainSees → Type 0
IsMainIn t m = (m.table ≡ t.id) × (m.sees.problem ≡ t.problem) × (m.sees.size ≡ t.size)

-- what a take can meet
abbrev pub CanBeMet : Cell → Type 0
CanBeMet c = (c ≡ Empty → ⊥) × (c ≡ Mine → ⊥)
