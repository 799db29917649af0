-- Lists of positions. A position is the place of a requirement, counted from 1.
use Rattle.std.specs.Prelude.{ℕ, ◌<◌, ◌≤◌, Bool, List, [], ◌∷◌, ◌==◌, filter}
use Rattle.std.specs.List.{list_any, range_with_len}

-- each number is above the one before it, the first is above `low`, and none is above `high`
abbrev pub RiseWithin : ℕ → ℕ → List ℕ → Type 0
RiseWithin low high [] = Unit {0}
RiseWithin low high (x ∷ xs) = (low < x) × (x ≤ high) × RiseWithin x high xs

-- whether the position is one of the members
abbrev pub has : List ℕ → ℕ → Bool
has members position = list_any (λ member. member == position) members

-- the positions of 1..=n that pass the test, ascending
abbrev pub positions_where : ℕ → (ℕ → Bool) → List ℕ
positions_where n test = filter test (range_with_len 1 n)
