-- What a worker's parts say to one another of its seat and of its searcher.
use Rattle.std.specs.Prelude.{◌≡◌, ℕ, ◌<◌, List, Contains, Option, Some, slice_index}
use Rattle.req_keys.specs.Key.{PositionSet}
use Rattle.clauses.specs.Problem.{ClauseProblem}
use Rattle.check_table.specs.Places.{key_width}
use Rattle.check_table.specs.Found.{HasRead}
use Rattle.check_table.specs.declared.view.WorkerView.{WorkerView}
use Rattle.check_table.specs.declared.view.Stage.TheVariants.{Runs}

-- the seat is the same worker's, and has met NoMore as it had
abbrev pub SameSeat : WorkerView → WorkerView → Type 0
SameSeat before after = (after.number ≡ before.number) × (after.done ≡ before.done)

-- and its ticket is the same
abbrev pub SameRest : WorkerView → WorkerView → Type 0
SameRest before after = (after.number ≡ before.number) × (after.done ≡ before.done) × (after.stage ≡ before.stage)

-- the seat runs its entry and has read these words of the key, all that a key of the problem has
abbrev pub HasWords : WorkerView → List ℕ → Type 0
HasWords w words = (t : ℕ) × (read : List (ℕ × ℕ)) × (w.stage ≡ Runs t read) × ((j : ℕ) → j < key_width w.problem → Contains read (j, slice_index words j))

-- the seat runs its entry and has read this key whole
abbrev pub HasKey : WorkerView → PositionSet → Type 0
HasKey w key = (t : ℕ) × (read : List (ℕ × ℕ)) × HasRead w t read key

-- a searcher, where there is one, is over the problem
abbrev pub IsFor : ClauseProblem → Option ClauseProblem → Type 0
IsFor problem searcher = (of : ClauseProblem) → searcher ≡ Some of → of ≡ problem
