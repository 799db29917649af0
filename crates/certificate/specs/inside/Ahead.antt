-- What is left of a file.
use Rattle.std.specs.Prelude.{◌≡◌, ℕ, ◌+◌, List, [], ◌∷◌, Option, Some, None}
use Rattle.std.specs.Borrow.{Bor}
use Rattle.certificate.specs.declared.judgement.Judgement.{Judgement}
use Rattle.certificate.specs.Judging.{Subject, Awaited, judged}

-- the lines that are left, and the number of the first of them
pub record Ahead : Type 0 where
  pub number : ℕ
  pub lines : List (List ℕ)

-- the next line is taken, if there is one
abbrev pub NextIs : Ahead → Ahead → Option (Bor (List ℕ)) → Type 0
NextIs before now None = (before.lines ≡ []) × (now ≡ before)
NextIs before now (Some line) = before.lines ≡ line.now ∷ now.lines × (now.number ≡ before.number + 1)

-- the judgement of what is left
abbrev pub judged_at : Subject → List Awaited → Ahead → Judgement
judged_at about awaited ahead = judged about awaited ahead.number ahead.lines
