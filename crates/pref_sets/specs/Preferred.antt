-- What the two greedy sets are in the field's words (Junker 2004): the items stand in the order of their
-- importance, the most important first, and one set is preferred to another by the order of the items.
use Rattle.std.specs.Prelude.{◌≡◌, ◌↔◌, ℕ, List, ◌∷◌, ◌++◌, Contains}
pub use Rattle.lists.specs.Distinct.{IsDistinct}

-- each member of `a` is in `b`
abbrev pub IsWithin : List ℕ → List ℕ → Type 0
IsWithin a b = (item : ℕ) → Contains a item → Contains b item

-- the two sets have the same of the items
abbrev pub AgreeOn : List ℕ → List ℕ → List ℕ → Type 0
AgreeOn items a b = (item : ℕ) → Contains items item → Contains a item ↔ Contains b item

-- `a` is lexicographically preferred to `b`: the first item on which they differ is in `a`
abbrev pub IsPreferredTo : List ℕ → List ℕ → List ℕ → Type 0
IsPreferredTo items a b =
    (before : List ℕ) × (item : ℕ) × (after : List ℕ)
    × (items ≡ before ++ item ∷ after) × AgreeOn before a b × Contains a item × (¬ Contains b item)

-- `a` is preferred to `b` as a conflict: the last item on which they differ is in `b`
abbrev pub IsPreferredConflictTo : List ℕ → List ℕ → List ℕ → Type 0
IsPreferredConflictTo items a b =
    (before : List ℕ) × (item : ℕ) × (after : List ℕ)
    × (items ≡ before ++ item ∷ after) × AgreeOn after a b × (¬ Contains a item) × Contains b item
