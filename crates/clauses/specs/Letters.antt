-- Clauses in letters: a short way to write worked problems. Own to this project.
use Rattle.std.specs.Prelude.{ℕ, ◌-◌, ◌%◌, nat_lt, List, map, if◌then◌else◌}
use Rattle.clauses.specs.declared.literal.Lit.{Lit}
use Rattle.clauses.specs.Clause.{positive_of, negative_of}

-- a, b, c and so on are the variables 0, 1, 2 and so on, and capital letters their negations; what is past the last of
-- so many variables begins again with the first
abbrev pub literal_of : ℕ → ℕ → Lit
literal_of variables letter = if nat_lt letter 97 then negative_of ((letter - 65) % variables) else positive_of ((letter - 97) % variables)

-- a word is a clause
abbrev pub clause_of : ℕ → List ℕ → List Lit
clause_of variables word = map (literal_of variables) word
