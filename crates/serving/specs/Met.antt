-- How a wait for an entry ended. Own to this project.
use Rattle.std.specs.Prelude.{◌≡◌, ◌⊎◌, ℕ, ◌<◌, false}
use Rattle.req_keys.specs.declared.verdict.Verdict.{Verdict}
use Rattle.req_keys.specs.declared.verdict.Cell.TheVariants.{Answered, GivenUp, Posted}
use Rattle.clauses.specs.Problem.{ClauseProblem}
use Rattle.check_table.specs.Places.{code, key_width, slot}
use Rattle.check_table.specs.declared.view.MainView.{MainView}
use Rattle.serving.specs.Entries.{IsTaken}

-- the state word of an entry that a worker gave up or answered
abbrev pub IsOver : ℕ → Type 0
IsOver word = (word ≡ code GivenUp false) ⊎ ((v : Verdict) × (word ≡ code (Answered v) false))

-- the seat has made a step since, its last one at the entry's state word. It met there that the entry was posted, and took it, or
-- that a worker gave it up or answered
pub record IsMet (problem : ClauseProblem) (before after : MainView) (number : ℕ) : Type 0 where
  pub rose : before.trace.count < after.trace.count
  pub place : after.trace.place ≡ slot (key_width problem) number 0
  pub word : ((after.trace.word ≡ code Posted false) × IsTaken after.entries number) ⊎ IsOver after.trace.word
