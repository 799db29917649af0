-- Lists of clauses.
use Rattle.std.specs.Prelude.{Contains, List}
use Rattle.clauses.specs.declared.literal.Lit.{Lit}

-- each clause of the first is one of the second
abbrev pub IsPart : List (List Lit) → List (List Lit) → Type 0
IsPart a b = (clause : List Lit) → Contains a clause → Contains b clause
