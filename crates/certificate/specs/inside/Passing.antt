-- What the code says of lines that it has read, whatever is awaited behind them.
use Rattle.std.specs.Prelude.{◌≡◌, ℕ, List, [], ◌∷◌, ◌++◌, Result, Ok, Err}
use Rattle.certificate.specs.declared.judgement.Judgement.TheVariants.{Yes, No}
use Rattle.certificate.specs.declared.judgement.Shown.{Shown}
use Rattle.certificate.specs.declared.judgement.Why.TheVariants as why
use Rattle.certificate.specs.declared.parts.Stop.{Stop}
use Rattle.certificate.specs.declared.parts.Stop.TheVariants.{Refused, Memory}
use Rattle.certificate.specs.Judging.{Subject, Awaited, Exactly, Nothing, at_end, step, step_at_list}
use Rattle.certificate.specs.Words.{list_in}
use Rattle.req_keys.specs.Key.{PositionSet}
use Rattle.certificate.specs.inside.Ahead.{Ahead, judged_at}

-- the lines that these parts take are accepted, or one of them is refused
abbrev pub Passes : {A : Type 0} → Subject → List Awaited → Ahead → Ahead → Result A Stop → Type 0
Passes about parts before now (Ok made) = (rest : List Awaited) → judged_at about (parts ++ rest) before ≡ judged_at about rest now
Passes about parts before now (Err (Refused line why)) = (rest : List Awaited) → judged_at about (parts ++ rest) before ≡ No line why
Passes about parts before now (Err Memory) = Unit {0}

-- a line with this word and a list is awaited, and then what follows from the list
pub record IsListAt (about : Subject) (word : List ℕ) (n : ℕ) (awaited : List Awaited) (next : List ℕ → List Awaited) : Type 0 where
  pub line : (line : List ℕ) → step about awaited line ≡ step_at_list (list_in word n line) next
  pub end : (number : ℕ) → at_end awaited number ≡ No number why.BadLine

-- no lines are left, or the next one is refused
abbrev pub EndsHere : {A : Type 0} → Ahead → Result A Stop → Type 0
EndsHere before (Ok made) = (about : Subject) (shown : Shown) (rest : List Awaited) → judged_at about (Nothing shown ∷ rest) before ≡ Yes shown
EndsHere before (Err (Refused line why)) = (about : Subject) (shown : Shown) (rest : List Awaited) → judged_at about (Nothing shown ∷ rest) before ≡ No line why
EndsHere before (Err Memory) = Unit {0}

-- a line with this word and a list is taken as a key over so many positions, or refused, wherever it is awaited
abbrev pub Leads : List ℕ → ℕ → Ahead → Ahead → Result PositionSet Stop → Type 0
Leads word n before now (Ok key) =
    (key.n ≡ n) × ((about : Subject) (awaited : List Awaited) (next : List ℕ → List Awaited) → IsListAt about word n awaited next → judged_at about awaited before ≡ judged_at about (next key.members) now)
Leads word n before now (Err (Refused line why)) =
    (about : Subject) (awaited : List Awaited) (next : List ℕ → List Awaited) → IsListAt about word n awaited next → judged_at about awaited before ≡ No line why
Leads word n before now (Err Memory) = Unit {0}

-- what these parts show, or the line that is refused
abbrev pub Shows : Subject → List Awaited → Ahead → Result Shown Stop → Type 0
Shows about parts before (Ok shown) = judged_at about parts before ≡ Yes shown
Shows about parts before (Err (Refused line why)) = judged_at about parts before ≡ No line why
Shows about parts before (Err Memory) = Unit {0}

-- the last line, and no more lines
abbrev pub EndsAfter : {A : Type 0} → List ℕ → Ahead → Result A Stop → Type 0
EndsAfter text before (Ok made) = (about : Subject) (shown : Shown) → judged_at about (Exactly text ∷ Nothing shown ∷ []) before ≡ Yes shown
EndsAfter text before (Err (Refused line why)) = (about : Subject) (shown : Shown) → judged_at about (Exactly text ∷ Nothing shown ∷ []) before ≡ No line why
EndsAfter text before (Err Memory) = Unit {0}
