-- Where a clause stands on a trail: at a level, and before its last literal was assumed.
use Rattle.std.specs.Prelude.{◌≡◌, ◌≢◌, ◌⊎◌, ◌-◌, ℕ, Bool, false, true, Contains, List, length, slice_index_or, if◌then◌else◌, nat_lt, nat_eq, Option, Some, None}
use Rattle.clauses.specs.declared.literal.Lit.{Lit}
use Rattle.clauses.specs.Clause.{has, negation}
use Rattle.propagation.specs.declared.placing.Place.{Place}
use Rattle.propagation.specs.declared.placing.Place.TheVariants as place
use Rattle.propagation.specs.inside.Watching.{IsRefuted}

-- a literal of the clause that isn't false, and isn't this one
abbrev pub IsOpenBeside : List Lit → List Lit → Option Lit → Option Lit → Type 0
IsOpenBeside set clause but None = (literal : Lit) → Contains clause literal → (but ≡ Some literal) ⊎ Contains set (negation literal)
IsOpenBeside set clause but (Some found) = Contains clause found × (¬ but ≡ Some found) × (has set (negation found) ≡ false)

-- a literal of the clause that is false in the set, and wasn't before
abbrev pub IsLate : List Lit → List Lit → List Lit → Option Lit → Type 0
IsLate set before clause None = (literal : Lit) → Contains clause literal → Contains set (negation literal) → Contains before (negation literal)
IsLate set before clause (Some found) = Contains clause found × Contains set (negation found) × (has before (negation found) ≡ false)

-- the literal is the only one of the clause that isn't false
pub record IsUnit (set clause : List Lit) (one : Lit) : Type 0 where
  pub inside : Contains clause one
  pub not_false : has set (negation one) ≡ false
  pub others : (literal : Lit) → Contains clause literal → literal ≢ one → Contains set (negation literal)

abbrev pub HasPlace : List Lit → List Lit → List Lit → Place → Type 0
HasPlace set before clause (place.Open one other) = (one ≢ other) × Contains clause one × Contains clause other × (has set (negation one) ≡ false) × (has set (negation other) ≡ false)
HasPlace set before clause (place.Forced one other) = IsUnit set clause one × Contains clause other × Contains set (negation other) × (has before (negation other) ≡ false)
HasPlace set before clause (place.Alone one) = IsUnit set clause one × ((literal : Lit) → Contains clause literal → Contains set (negation literal) → Contains before (negation literal))
HasPlace set before clause place.Refuted = IsRefuted set clause

-- the end of a level, and the end of the level below it
abbrev pub end_at : List ℕ → ℕ → ℕ → ℕ
end_at marks length_of_trail level = if nat_lt level (length marks) then slice_index_or marks level 0 else length_of_trail

abbrev pub start_at : List ℕ → ℕ → ℕ
start_at marks level = if nat_eq level 0 then 0 else slice_index_or marks (level - 1) 0

-- one literal of the clause is open, and another is or was until this level
abbrev pub is_found : Place → Bool
is_found (place.Open one other) = true
is_found (place.Forced one other) = true
is_found (place.Alone one) = false
is_found place.Refuted = false
