-- What a put into a sink leaves there. Own to this project.
use Rattle.std.specs.Prelude.{◌≡◌, ℕ, ◌+◌, ◌≤◌, List, ◌++◌, length, take, Option, option_map, Result, Ok, Err, min}
use Rattle.diag_base.specs.Faults.{LAST}
use Rattle.diag_base.specs.declared.sink.PutFailed.{PutFailed}

-- the sink has these bytes more, where it tells what it has
abbrev pub Gains : List ℕ → Option (List ℕ) → Option (List ℕ) → Type 0
Gains bytes before now = now ≡ option_map (λ written. written ++ bytes) before

-- the sink has the first of these bytes more, as many as it took
abbrev pub GainsPart : List ℕ → Option (List ℕ) → Option (List ℕ) → Type 0
GainsPart bytes before now = (taken : ℕ) × (taken ≤ length bytes) × Gains (take taken bytes) before now

-- the count of faults is one more after a put that failed, up to its last value, and else what it was
abbrev pub Counts : ℕ → ℕ → Result Unit PutFailed → Type 0
Counts before now (Ok done) = now ≡ before
Counts before now (Err failed) = now ≡ min (before + 1) LAST
