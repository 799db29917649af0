-- A trail: the literals that are true, in the order in which they came.
use Rattle.std.specs.Prelude.{◌≡◌, ◌⊎◌, ◌+◌, ◌*◌, ◌++◌, [], ◌∷◌, ◌<◌, ◌≤◌, ℕ, Bool, true, false, All, Contains, List, length, slice_index_or, Option, Some, None, if◌then◌else◌}
use Rattle.clauses.specs.declared.literal.Lit.{Lit}
use Rattle.clauses.specs.Clause.{has, negation, negative_of, positive_of}
use Rattle.clauses.specs.Problem.{IsBelow}

pub record Trailing : Type 0 where
  pub variables : ℕ
  pub literals : List Lit

-- what a set of literals says of a variable
abbrev pub value_in : List Lit → ℕ → Option Bool
value_in set var = if has set (positive_of var) then Some true else (if has set (negative_of var) then Some false else None)

-- no literal stands with its negation
abbrev pub IsOneSigned : List Lit → Type 0
IsOneSigned literals = (literal : Lit) → Contains literals literal → ¬ Contains literals (negation literal)

-- the number of a literal
abbrev pub code_of : Lit → ℕ
code_of literal = 2 * literal.var + (if literal.positive then 1 else 0)

-- by its number: whether a literal of these variables is there; they are few enough for a number of four bytes
pub record AreValues (variables : ℕ) (literals : List Lit) (values : List Bool) : Type 0 where
  pub few : variables ≤ 1000000
  pub sized : length values ≡ 2 * variables
  pub valued : (literal : Lit) → literal.var < variables → slice_index_or values (code_of literal) false ≡ has literals literal

-- none of these literals is there any more, and the others are as they were
abbrev pub AreUnset : List Bool → List Lit → List Bool → Type 0
AreUnset old gone new =
    (length new ≡ length old)
    × ((literal : Lit) → code_of literal < length old → slice_index_or new (code_of literal) false ≡ (if has gone literal then false else slice_index_or old (code_of literal) false))

-- the place of each literal is kept by its variable, and there is room for one of each variable
pub record IsTrail (literals : List Lit) (places : List ℕ) (room : ℕ) : Type 0 where
  pub placed : (i : ℕ) (d : Lit) → i < length literals → slice_index_or places (slice_index_or literals i d).var 0 ≡ i
  pub below : All (IsBelow (length places)) literals
  pub reserved : length places ≤ room

-- the literal is there now
abbrev pub IsTakenIn : Trailing → Lit → Trailing → Type 0
IsTakenIn old literal new = ((new ≡ old) × Contains old.literals literal) ⊎ (new ≡ record old { literals = old.literals ++ literal ∷ [] })
