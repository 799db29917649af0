-- Lists of keys, and sets of a level by their places.
use Rattle.std.specs.Prelude.{ℕ, List, [], map, get_or}
use Rattle.req_keys.specs.Key.{PositionSet}

-- the keys as sets
abbrev pub sets_of : List PositionSet → List (List ℕ)
sets_of keys = map (λ key. key.members) keys

-- the set at a place
abbrev pub at_place : List (List ℕ) → ℕ → List ℕ
at_place sets place = get_or sets place []
