-- Clauses of two literals: by the number of a literal, those of which each is in a clause with it alone.
use Rattle.std.specs.Prelude.{◌≡◌, ◌⊎◌, ◌+◌, ◌-◌, ◌<◌, ◌≤◌, ◌++◌, ℕ, Bool, false, true, Contains, List, length, drop, slice_index_or, take}
use Rattle.clauses.specs.declared.literal.Lit.{Lit}
use Rattle.clauses.specs.Clause.{negation}
use Rattle.propagation.specs.inside.Trails.{Trailing, code_of}

-- rows of literals, one behind the other, and where each begins
pub record Pairing : Type 0 where
  pub starts : List ℕ
  pub others : List Lit

-- where a row begins
abbrev pub start_in : Pairing → ℕ → ℕ
start_in pairs slot = slice_index_or pairs.starts slot 0

abbrev pub row_of : Pairing → ℕ → List Lit
row_of pairs slot = take (start_in pairs (slot + 1) - start_in pairs slot) (drop (start_in pairs slot) pairs.others)

-- each row ends where the next one begins, and all are within
abbrev pub AreRows : Pairing → Type 0
AreRows pairs = (slot : ℕ) → slot + 1 < length pairs.starts → (start_in pairs slot ≤ start_in pairs (slot + 1)) × (start_in pairs (slot + 1) ≤ length pairs.others)

-- the clause has both literals and no other one
pub record IsOfTwo (clause : List Lit) (one other : Lit) : Type 0 where
  pub one_in : Contains clause one
  pub other_in : Contains clause other
  pub only : (literal : Lit) → Contains clause literal → (literal ≡ one) ⊎ (literal ≡ other)

-- where a literal of the slot is false, a clause forces each literal of its row
abbrev pub ArePaired : List (List Lit) → Pairing → Type 0
ArePaired clauses pairs = (one other : Lit) → Contains (row_of pairs (code_of one)) other → (clause : List Lit) × Contains clauses clause × IsOfTwo clause one other

-- the literals of the row were made true, up to one that is false
pub record IsBrought (row : List Lit) (old new : Trailing) (fits : Bool) : Type 0 where
  pub same : new.variables ≡ old.variables
  pub more : List Lit
  pub grows : new.literals ≡ old.literals ++ more
  pub listed : (literal : Lit) → Contains more literal → Contains row literal
  pub all : fits ≡ true → (literal : Lit) → Contains row literal → Contains new.literals literal
  pub refuted : fits ≡ false → (literal : Lit) × Contains row literal × Contains new.literals (negation literal)
