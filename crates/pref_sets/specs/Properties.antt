-- How a property of sets of items behaves when a set loses or gets members.
use Rattle.std.specs.Prelude.{ℕ, List}
use Rattle.pref_sets.specs.Preferred.{IsWithin}

-- the property passes to every set with fewer members, as 'consistent'
abbrev pub PassesToFewer : (List ℕ → Type 0) → Type 0
PassesToFewer P = (a b : List ℕ) → IsWithin a b → P b → P a

-- the property passes to every set with more members, as 'not consistent'
abbrev pub PassesToMore : (List ℕ → Type 0) → Type 0
PassesToMore P = (a b : List ℕ) → IsWithin a b → P a → P b
