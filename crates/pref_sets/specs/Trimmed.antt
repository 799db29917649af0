-- The trimmed set: the greedy fold downwards. For the property 'not consistent' it is the preferred
-- conflict of the items (Junker 2004).
use Rattle.std.specs.Prelude.{ℕ, Bool, not, List, ◌==◌, filter, reverse}
use Rattle.pref_sets.specs.Greedy.{IsGreedy, greedy_of}

-- the set without the item
abbrev pub without_item : List ℕ → ℕ → List ℕ
without_item set item = filter (λ other. not (other == item)) set

-- `left` is the trimmed set of the items: starting with all of them and going from the last item to the
-- first, an item leaves where the property still holds of the rest
abbrev pub IsTrimmed : (List ℕ → Type 0) → List ℕ → List ℕ → Type 0
IsTrimmed P items left = IsGreedy P without_item items (reverse items) left

-- the trimmed set of the items for a test
abbrev pub trimmed_of : (List ℕ → Bool) → List ℕ → List ℕ
trimmed_of test items = greedy_of test without_item items (reverse items)
