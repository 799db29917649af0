-- A clause that watches a literal which is false now, and one other.
use Rattle.std.specs.Prelude.{◌≡◌, ◌≢◌, ◌⊎◌, ◌++◌, ◌∷◌, [], ℕ, false, Contains, List, Option, Some, None, slice_set}
use Rattle.clauses.specs.declared.literal.Lit.{Lit}
use Rattle.clauses.specs.Clause.{has, negation}
use Rattle.propagation.specs.declared.visits.Visit.{Visit}
use Rattle.propagation.specs.declared.visits.Visit.TheVariants as visit
use Rattle.propagation.specs.inside.Trails.{IsOneSigned, Trailing}
use Rattle.propagation.specs.inside.Watching.{IsRefuted}

-- another literal of the clause that isn't false, if there is one
abbrev pub IsReplacement : List Lit → List Lit → Lit → Option Lit → Type 0
IsReplacement set clause other None = (literal : Lit) → Contains clause literal → (literal ≡ other) ⊎ Contains set (negation literal)
IsReplacement set clause other (Some found) = Contains clause found × (found ≢ other) × (has set (negation found) ≡ false)

-- the other literal is true, maybe only since it is forced; or another literal is to be watched; or all are false
abbrev pub IsVisit : Trailing → Trailing → List Lit → Lit → Visit → Type 0
IsVisit old new clause other visit.Stays =
    ((new ≡ old) × Contains old.literals other)
    ⊎ ((new ≡ record old { literals = old.literals ++ other ∷ [] }) × ((literal : Lit) → Contains clause literal → literal ≢ other → Contains old.literals (negation literal)))
IsVisit old new clause other (visit.Moves found) = (new ≡ old) × IsReplacement old.literals clause other (Some found) × IsOneSigned old.literals
IsVisit old new clause other visit.Refuted = (new ≡ old) × IsReplacement old.literals clause other None × Contains old.literals (negation other)

-- the other literal is true now, and the entry stays; or it watches another literal; or the clause is refuted
abbrev pub IsStep : ℕ → List Lit → Lit → List Lit → List Lit → Trailing → Trailing → Visit → Type 0
IsStep entry clause other watched now old new visit.Stays =
    (now ≡ watched) × Contains new.literals other
    × ((new ≡ old)
    ⊎ ((new ≡ record old { literals = old.literals ++ other ∷ [] }) × ((literal : Lit) → Contains clause literal → literal ≢ other → Contains old.literals (negation literal))))
IsStep entry clause other watched now old new (visit.Moves found) =
    (now ≡ slice_set watched entry found) × (new ≡ old) × IsReplacement old.literals clause other (Some found) × IsOneSigned old.literals
IsStep entry clause other watched now old new visit.Refuted = (now ≡ watched) × (new ≡ old) × IsRefuted old.literals clause
