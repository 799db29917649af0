-- Counts of 64 bits that stop at their last value.
use Rattle.std.specs.Prelude.{ℕ, ◌+◌, ◌-◌, ◌^◌, ◌≤◌, min}

-- the last value of a count of 64 bits
abbrev pub LAST : ℕ
LAST = 2 ^ 64 - 1

-- a count has risen, or stands at its last value
abbrev pub Rises : ℕ → ℕ → Type 0
Rises before now = min (before + 1) LAST ≤ now
