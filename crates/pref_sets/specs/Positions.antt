-- Sets of positions as ascending lists: their union, and the two halves that a recursion divides them into.
use Rattle.std.specs.List.{range_with_len}
use Rattle.std.specs.Prelude.{ℕ, ◌+◌, nat_lt, ◌/◌, ◌==◌, List, [], ◌∷◌, length, take, drop, if◌then◌else◌}

-- the ascending set and one more position, at its place; one that is there stays
abbrev pub with_position : ℕ → List ℕ → List ℕ
with_position position [] = position ∷ []
with_position position (first ∷ set) =
    if nat_lt position first
    then position ∷ first ∷ set
    else if position == first then first ∷ set else first ∷ with_position position set

-- the positions in `a` or in `b`, ascending
abbrev pub union : List ℕ → List ℕ → List ℕ
union [] b = b
union (position ∷ a) b = with_position position (union a b)

-- the lower half of m positions: `m / 2` of them, rounded down
abbrev pub lower_half : List ℕ → List ℕ
lower_half positions = take (length positions / 2) positions

-- the other positions
abbrev pub upper_half : List ℕ → List ℕ
upper_half positions = drop (length positions / 2) positions

-- so many positions that come after the first `before`
abbrev pub range : ℕ → ℕ → List ℕ
range before length = range_with_len (before + 1) length
