-- Unit propagation as a least set, without an order: the closure of some clauses is the least set of literals that
-- has, for each clause and each literal in it whose other literals are all negated in the set, that literal. It is
-- reached by rounds, each of which adds every forced literal at once.
use Rattle.std.specs.Prelude.{◌≡◌, ◌≢◌, ◌↔◌, IsTrue, Contains, ℕ, zero, suc, Bool, not, ◌||◌, List, [], ◌∷◌, ◌++◌, length, filter, flat_map, fold, map, if◌then◌else◌}
use Rattle.std.specs.List.{list_any, list_all}
use Rattle.clauses.specs.declared.literal.Lit.{Lit}
use Rattle.clauses.specs.Clause.{has, is_same, negation, unit_of}

-- whether each literal of the clause but this one is negated in the set
abbrev pub is_forcing : List Lit → List Lit → Lit → Bool
is_forcing set clause literal = list_all (λ other. is_same literal other || has set (negation other)) clause

-- the literals of the clause that it forces
abbrev pub forced_by : List Lit → List Lit → List Lit
forced_by set clause = filter (is_forcing set clause) clause

-- the set and one more literal, which stands in it once
abbrev pub with_literal : List Lit → Lit → List Lit
with_literal set literal = if has set literal then set else set ++ literal ∷ []

-- the literals that some clause forces and that aren't in the set, each once
abbrev pub newly_forced : List (List Lit) → List Lit → List Lit
newly_forced clauses set = fold with_literal [] (filter (λ literal. not (has set literal)) (flat_map (forced_by set) clauses))

-- a round adds all of them, until there are none
abbrev pub rounds : List (List Lit) → ℕ → List Lit → List Lit
rounds clauses zero set = set
rounds clauses (suc count) set = elim (newly_forced clauses set) [ [] ↦ set | literal ∷ more ↦ rounds clauses count (set ++ literal ∷ more) ]

-- each round but the last adds a literal of some clause, so there are no more rounds than literals
abbrev pub literal_count : List (List Lit) → ℕ
literal_count clauses = length (flat_map (λ clause. clause) clauses)

abbrev pub closure : List (List Lit) → List Lit
closure clauses = rounds clauses (literal_count clauses) []

-- a set of literals, given as a property of them, has each literal that a clause forces there
abbrev pub IsClosed : List (List Lit) → (Lit → Type 0) → Type 0
IsClosed clauses In =
    (clause : List Lit) (literal : Lit) → Contains clauses clause → Contains clause literal
    → ((other : Lit) → Contains clause other → other ≢ literal → In (negation other)) → In literal

-- each clause of the first has the same literals as some clause of the second
abbrev pub AreAmong : List (List Lit) → List (List Lit) → Type 0
AreAmong a b = (clause : List Lit) → Contains a clause → (other : List Lit) × Contains b other × ((literal : Lit) → Contains clause literal ↔ Contains other literal)

-- whether all literals of the clause are negated in the set
abbrev pub is_refuted : List Lit → List Lit → Bool
is_refuted set clause = list_all (λ literal. has set (negation literal)) clause

-- whether the closure refutes one of the clauses
abbrev pub clash : List (List Lit) → Bool
clash clauses = list_any (is_refuted (closure clauses)) clauses

-- a clause follows by reverse unit propagation: the clauses and the negations of its literals clash
abbrev pub follows : List (List Lit) → List Lit → Bool
follows clauses clause = clash (clauses ++ map (λ literal. unit_of (negation literal)) clause)

-- each of the lines follows from the clauses and the lines before it
abbrev pub AreDerived : List (List Lit) → List (List Lit) → Type 0
AreDerived clauses [] = Unit {0}
AreDerived clauses (line ∷ lines) = IsTrue (follows clauses line) × AreDerived (clauses ++ line ∷ []) lines

-- a derivation: lines that follow, of which the last is the empty clause
abbrev pub IsDerivation : List (List Lit) → List (List Lit) → Type 0
IsDerivation clauses lines = AreDerived clauses lines × ((before : List (List Lit)) × (lines ≡ before ++ [] ∷ []))
