-- What a list of lines is, checked as a derivation by reverse unit propagation (Goldberg and Novikov 2003).
use Rattle.std.specs.Prelude.{◌≡◌, ◌+◌, ◌==◌, ℕ, IsTrue, Bool, true, false, List, [], ◌∷◌, ◌++◌, length, if◌then◌else◌, Option, Some, None}
use Rattle.std.specs.Option.{option_map}
use Rattle.clauses.specs.declared.literal.Lit.{Lit}
use Rattle.clauses.specs.Closure.{follows, AreDerived}
use Rattle.derivation_check.specs.declared.checked.Checked.{Checked}
use Rattle.derivation_check.specs.declared.checked.Checked.TheVariants as checked

-- the number, from 0, of the first line that doesn't follow from the clauses and the lines before it
abbrev pub first_wrong : List (List Lit) → List (List Lit) → Option ℕ
first_wrong clauses [] = None
first_wrong clauses (line ∷ lines) = if follows clauses line then option_map (λ number. number + 1) (first_wrong (clauses ++ line ∷ []) lines) else Some 0

-- whether there is a last line and it is the empty clause
abbrev pub ends_empty : List (List Lit) → Bool
ends_empty [] = false
ends_empty (line ∷ []) = length line == 0
ends_empty (line ∷ next ∷ lines) = ends_empty (next ∷ lines)

-- what the first wrong line, if any, and whether the last is the empty clause come to
abbrev pub answer_of : Option ℕ → Bool → Checked
answer_of (Some number) ended = checked.NoAt number
answer_of None true = checked.Yes
answer_of None false = checked.NoEnd

-- the first line that doesn't follow is this one, or all follow, and the last is the empty clause or isn't
abbrev pub check : List (List Lit) → List (List Lit) → Checked
check clauses lines = answer_of (first_wrong clauses lines) (ends_empty lines)

-- the last line is the empty clause
abbrev pub EndsEmpty : List (List Lit) → Type 0
EndsEmpty lines = (before : List (List Lit)) × (lines ≡ before ++ [] ∷ [])

-- so many lines come before this one, each of them follows, and this one doesn't
abbrev pub IsFirstWrong : List (List Lit) → List (List Lit) → ℕ → Type 0
IsFirstWrong clauses lines number =
    (before : List (List Lit)) × (line : List Lit) × (after : List (List Lit))
    × (lines ≡ before ++ line ∷ after) × (length before ≡ number) × AreDerived clauses before × (¬ IsTrue (follows (clauses ++ before) line))
