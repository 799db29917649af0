-- The greedy fold, once for both directions: upwards it keeps (`specs/Kept.antt`), downwards it trims
-- (`specs/Trimmed.antt`). Own to this project; the two sets that it gives are Junker's (2004).
--
-- A set of items is a list without repeats. The property that is asked of sets may be any fact, computed
-- or not, so the fold is first a relation. For a property that is a test it is also a function.
use Rattle.std.specs.Prelude.{◌≡◌, ℕ, Bool, List, [], ◌∷◌, ◌⊎◌, fold, if◌then◌else◌}

-- `last` is what the greedy fold makes of `set`: it goes through the items in their order, and takes the
-- step at an item where the property holds of the set that the step leads to; else the set stays
abbrev pub IsGreedy : (List ℕ → Type 0) → (List ℕ → ℕ → List ℕ) → List ℕ → List ℕ → List ℕ → Type 0
IsGreedy P step set [] last = last ≡ set
IsGreedy P step set (item ∷ items) last =
    (P (step set item) × IsGreedy P step (step set item) items last) ⊎ ((¬ P (step set item)) × IsGreedy P step set items last)

-- the set after the step at an item, if the test passes there, and else the set
abbrev pub set_after : (List ℕ → Bool) → (List ℕ → ℕ → List ℕ) → List ℕ → ℕ → List ℕ
set_after test step set item = if test (step set item) then step set item else set

-- the same fold for a test, as a function
abbrev pub greedy_of : (List ℕ → Bool) → (List ℕ → ℕ → List ℕ) → List ℕ → List ℕ → List ℕ
greedy_of test step set items = fold (set_after test step) set items
