-- The table and its seats as contracts see them.
use Rattle.std.specs.Prelude.{◌≡◌, ℕ, []}
use Rattle.atomic_table.specs.Seated.{TableId}
use Rattle.clauses.specs.Problem.{ClauseProblem}
use Rattle.check_table.specs.declared.view.MainView.{MainView}
use Rattle.check_table.specs.declared.view.WorkerView.{WorkerView}

-- which table, for what problem, of how many entries
pub record TableData : Type 0 where
  pub id : TableId
  pub problem : ClauseProblem
  pub size : ℕ

-- a seat: which table's, and what it knows
pub record MainSees : Type 0 where
  pub table : TableId
  pub sees : MainView

pub record WorkerSees : Type 0 where
  pub table : TableId
  pub sees : WorkerView

-- the seat is this table's, and knows its problem and size; nothing of a next key is written between two calls
pub record IsMainOf (t : TableData) (m : MainSees) : Type 0 where
  pub table : m.table ≡ t.id
  pub problem : m.sees.problem ≡ t.problem
  pub size : m.sees.size ≡ t.size
  pub written : m.sees.written ≡ []

pub record IsWorkerOf (t : TableData) (w : WorkerSees) : Type 0 where
  pub table : w.table ≡ t.id
  pub problem : w.sees.problem ≡ t.problem
  pub size : w.sees.size ≡ t.size
