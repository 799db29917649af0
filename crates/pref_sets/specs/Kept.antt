-- The kept set: the greedy fold upwards. For the property 'consistent' it is the preferred relaxation
-- (Junker 2004), and what it leaves out is the preferred diagnosis (Felfernig, Schubert and Zehentner 2012).
use Rattle.std.specs.Prelude.{ℕ, Bool, List, [], ◌∷◌, ◌++◌}
use Rattle.pref_sets.specs.Greedy.{IsGreedy, greedy_of}

-- the set and one more item, at its end
abbrev pub with_item : List ℕ → ℕ → List ℕ
with_item set item = set ++ item ∷ []

-- `kept` is the kept set of the items: going from the first item to the last with the empty set, an item
-- joins where the property holds of the set with it
abbrev pub IsKept : (List ℕ → Type 0) → List ℕ → List ℕ → Type 0
IsKept P items kept = IsGreedy P with_item [] items kept

-- the kept set of the items for a test
abbrev pub kept_of : (List ℕ → Bool) → List ℕ → List ℕ
kept_of test items = greedy_of test with_item [] items
