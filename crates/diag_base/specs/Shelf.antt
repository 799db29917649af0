-- What a fetch from a shelf may answer. Own to this project.
use Rattle.std.specs.Prelude.{◌≡◌, ℕ, ◌+◌, ◌<◌, ◌≤◌, List, length, Option, Some, Result, Ok, Err, min}
use Rattle.diag_base.specs.Faults.{LAST}
use Rattle.diag_base.specs.declared.shelf.Fetched.{Fetched}
use Rattle.diag_base.specs.declared.shelf.Fetched.TheVariants.{Whole, Longer}
use Rattle.diag_base.specs.declared.shelf.FetchError.{FetchError}
use Rattle.diag_base.specs.declared.shelf.FetchError.TheVariants.{Failed, Memory}

-- the files of a shelf: the bytes under each name, where it has the name
abbrev pub Files : Type 0
Files = List ℕ → Option (List ℕ)

-- no file has more bytes than were asked for
abbrev pub IsShort : ℕ → Result Fetched FetchError → Type 0
IsShort most (Ok (Whole bytes)) = length bytes ≤ most
IsShort most (Ok Longer) = Unit {0}
IsShort most (Err e) = Unit {0}

-- bytes are handed out whole, where there are at most so many, and else only their being longer is told
abbrev pub Hands : ℕ → List ℕ → Fetched → Type 0
Hands most bytes (Whole handed) = (length bytes ≤ most) × (handed ≡ bytes)
Hands most bytes Longer = most < length bytes

-- an answer that is no error comes only for a name that the shelf has, and hands out its bytes
abbrev pub Tells : Files → List ℕ → ℕ → Result Fetched FetchError → Type 0
Tells files name most (Ok fetched) = (bytes : List ℕ) × (files name ≡ Some bytes) × Hands most bytes fetched
Tells files name most (Err e) = Unit {0}

-- the name of the last failed fetch is this one after a failure, and else what it was
abbrev pub Loses : List ℕ → Option (List ℕ) → Option (List ℕ) → Result Fetched FetchError → Type 0
Loses name before now (Ok fetched) = now ≡ before
Loses name before now (Err Failed) = now ≡ Some name
Loses name before now (Err Memory) = now ≡ before

-- the count of faults is one more after a failure, up to its last value, and else what it was
abbrev pub Counts : ℕ → ℕ → Result Fetched FetchError → Type 0
Counts before now (Ok fetched) = now ≡ before
Counts before now (Err Failed) = now ≡ min (before + 1) LAST
Counts before now (Err Memory) = now ≡ before
