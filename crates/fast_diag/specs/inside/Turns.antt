-- Which half is next.
use Rattle.std.specs.Prelude.{◌≡◌, ℕ, ◌+◌, ◌<◌, ◌≤◌, true, Option, Some, None, List, [], reverse}
use Rattle.req_keys.specs.Key.{PositionSet}
use Rattle.fast_diag.specs.inside.Remaining.{StandsAt, waiting, with_waiting}
use Rattle.fast_diag.specs.declared.parts.Half.{Half}
use Rattle.fast_diag.specs.declared.parts.Turn.{Turn}

-- what waited is the half and what waits now; none is next where all that waited is done at once
abbrev pub IsTurn : PositionSet → ℕ → List Half → List Half → Option Turn → Type 0
IsTurn kept at before after None = (after ≡ []) × (waiting (reverse before) kept.members ≡ waiting (reverse after) kept.members)
IsTurn kept at before after (Some turn) =
    (waiting (reverse before) kept.members ≡ with_waiting kept.members turn.before turn.length turn.known after)
    × (0 < turn.length) × (turn.known ≡ true → 2 ≤ turn.length) × (at ≤ turn.before)
    × StandsAt kept.n (turn.before + turn.length) kept after
