-- A table that is closed under subsets agrees with 'within a set that it has as Sat'.
use Rattle.std.proofs.Common.{◌≡◌, ℕ, true, false, Some, List}
use Rattle.pref_sets.specs.Answers.{Answer, AgreesWith, IsClosed, IsWithinSat, answer_to}
use Rattle.pref_sets.specs.Properties.{PassesToFewer}

pub IsWithinSat-fewer : (table : List Answer) → PassesToFewer (IsWithinSat table)
IsWithinSat-fewer table a b within h = (h.0, h.1, λ i m. h.2 i (within i m))

pub IsWithinSat-sat : (table : List Answer) (set : List ℕ) → answer_to table set ≡ Some true → IsWithinSat table set
IsWithinSat-sat table set e = (set, e, λ i m. m)

pub IsWithinSat-unsat : (table : List Answer) → IsClosed table → (set : List ℕ) → answer_to table set ≡ Some false → ¬ IsWithinSat table set
IsWithinSat-unsat table closed set e h = closed set h.0 e h.1 h.2

pub AgreesWith-closed : (table : List Answer) → IsClosed table → AgreesWith (IsWithinSat table) table
AgreesWith-closed table closed = record { sat = λ set e. IsWithinSat-sat table set e; unsat = λ set e. IsWithinSat-unsat table closed set e }
