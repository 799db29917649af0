-- Literals and clauses. A clause is read as the set of its literals: their order and how often one stands there make
-- no difference to what is said here.
use Rattle.std.specs.Prelude.{ℕ, Bool, true, false, not, ◌&&◌, ◌==◌, List, [], ◌∷◌, if◌then◌else◌, slice_index_or}
use Rattle.std.specs.List.{list_any, list_all}
use Rattle.clauses.specs.declared.literal.Lit.{Lit}

-- the literal that says the variable is true, and the one that says it is false
abbrev pub positive_of : ℕ → Lit
positive_of var = record { var = var; positive = true }

abbrev pub negative_of : ℕ → Lit
negative_of var = record { var = var; positive = false }

-- the literal that says the variable has this value
abbrev pub literal_with : Bool → ℕ → Lit
literal_with value var = record { var = var; positive = value }

-- the same variable with the other sign
abbrev pub negation : Lit → Lit
negation literal = record { var = literal.var; positive = not literal.positive }

-- the clause of one literal
abbrev pub unit_of : Lit → List Lit
unit_of literal = literal ∷ []

-- whether two literals are one
abbrev pub is_same : Lit → Lit → Bool
is_same a b = (a.var == b.var) && (if a.positive then b.positive else not b.positive)

-- whether the literal is in the set
abbrev pub has : List Lit → Lit → Bool
has set literal = list_any (is_same literal) set

-- whether an assignment, a value for each variable, makes the literal true
abbrev pub is_true_in : List Bool → Lit → Bool
is_true_in values literal = if literal.positive then slice_index_or values literal.var false else not (slice_index_or values literal.var false)

-- whether it makes a literal of the clause true
abbrev pub is_satisfied : List Bool → List Lit → Bool
is_satisfied values clause = list_any (is_true_in values) clause

-- whether it makes a literal of each clause true
abbrev pub are_satisfied : List Bool → List (List Lit) → Bool
are_satisfied values clauses = list_all (is_satisfied values) clauses
