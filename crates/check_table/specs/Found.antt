-- What a call answers of the word that it met, and what its caller owes.
use Rattle.std.specs.Prelude.{◌≡◌, ℕ, ◌<◌, ◌⊎◌, Bool, true, false, List, Contains, nat_lt, if◌then◌else◌, ◌==◌}
use mathlib.Core.Option.{some}
use lib.ListN.{get_elem?}
use Rattle.req_keys.specs.Key.{PositionSet}
use Rattle.req_keys.specs.Words.{word_of}
use Rattle.req_keys.specs.declared.verdict.Verdict.{Verdict}
use Rattle.req_keys.specs.declared.verdict.Cell.{Cell}
use Rattle.req_keys.specs.declared.verdict.Cell.TheVariants as cell
use Rattle.check_table.specs.Places.{key_width, slot, has_mark, IsKeyOf, IsVerdictOf}
use Rattle.check_table.specs.Views.{after_stop_look, after_mark_look}
use Rattle.check_table.specs.declared.found.Drawn.{Drawn}
use Rattle.check_table.specs.declared.found.Drawn.TheVariants.{Ticket, NoMore}
use Rattle.check_table.specs.declared.found.Claimed.{Claimed}
use Rattle.check_table.specs.declared.found.Claimed.TheVariants.{Taken, NotYet, Gone}
use Rattle.check_table.specs.declared.found.Took.{Took}
use Rattle.check_table.specs.declared.found.Took.TheVariants.{Mine, Running, GivenUp, Answered}
use Rattle.check_table.specs.declared.found.Left.{Left}
use Rattle.check_table.specs.declared.found.Left.TheVariants.{Kept, Late}
use Rattle.check_table.specs.declared.found.GaveUp.{GaveUp}
use Rattle.check_table.specs.declared.found.GaveUp.TheVariants.{Memory, Stopped}
use Rattle.check_table.specs.declared.view.KnownEntry.{KnownEntry}
use Rattle.check_table.specs.declared.view.MainView.{MainView}
use Rattle.check_table.specs.declared.view.WorkerView.{WorkerView}
use Rattle.check_table.specs.declared.view.Stage.{Stage}
use Rattle.check_table.specs.declared.view.Stage.TheVariants.{Idle, Holds, Runs}

abbrev pub drawn_of : ℕ → ℕ → Drawn
drawn_of size n = if nat_lt n size then Ticket n else NoMore

-- a claim answers by the cell and the mark that it met: never another cell than these three without the mark
abbrev pub ClaimedIs : Cell → Bool → Claimed → Type 0
ClaimedIs c true answer = answer ≡ Gone
ClaimedIs cell.Empty false answer = answer ≡ NotYet
ClaimedIs cell.Posted false answer = answer ≡ Taken
ClaimedIs cell.Mine false answer = answer ≡ Gone
ClaimedIs (cell.Running worker) false answer = ⊥
ClaimedIs cell.GivenUp false answer = ⊥
ClaimedIs (cell.Answered v) false answer = ⊥

-- a take answers by the cell that it met
abbrev pub TookIs : Cell → Took → Type 0
TookIs cell.Posted answer = answer ≡ Mine
TookIs (cell.Running worker) answer = answer ≡ Running
TookIs cell.GivenUp answer = answer ≡ GivenUp
TookIs (cell.Answered v) answer = answer ≡ Answered v
TookIs cell.Empty answer = ⊥
TookIs cell.Mine answer = ⊥

-- an answer is late exactly where the mark stood
abbrev pub left_of : Bool → Left
left_of mark = if mark then Late else Kept

-- the number of the ticket, where there is one
abbrev pub ticket_in : Stage → ℕ
ticket_in Idle = 0
ticket_in (Holds t) = t
ticket_in (Runs t read) = t

abbrev pub IsIdle : WorkerView → Type 0
IsIdle w = w.stage ≡ Idle

-- it has a ticket and doesn't run it
abbrev pub IsHolding : WorkerView → Type 0
IsHolding w = (t : ℕ) × (w.stage ≡ Holds t)

abbrev pub IsRunning : WorkerView → Type 0
IsRunning w = (t : ℕ) × (read : List (ℕ × ℕ)) × (w.stage ≡ Runs t read)

-- the main seat posted the entry, and neither cancelled nor took it
pub record IsWanted (m : MainView) (t : ℕ) : Type 0 where
  pub entry : KnownEntry
  pub at : get_elem? m.entries t ≡ some entry
  pub kept : entry.cancelled ≡ false
  pub free : entry.mine ≡ false

-- the seat runs an entry and has read this key whole, all words since it claimed the entry
pub record HasRead (w : WorkerView) (t : ℕ) (read : List (ℕ × ℕ)) (key : PositionSet) : Type 0 where
  pub runs : w.stage ≡ Runs t read
  pub over : IsKeyOf w.problem key
  pub whole : (j : ℕ) → j < key_width w.problem → Contains read (j, word_of key j)

-- the seat has read a key whole, and this is the key's verdict in its problem
abbrev pub IsVerdict : WorkerView → Verdict → Type 0
IsVerdict w v = (t : ℕ) × (read : List (ℕ × ℕ)) × (key : PositionSet) × HasRead w t read key × IsVerdictOf w.problem key v

-- who gives up as Stopped saw the stop or the mark; want of memory is free
abbrev pub MayGiveUp : GaveUp → WorkerView → Type 0
MayGiveUp Memory w = Unit {0}
MayGiveUp Stopped w = (w.saw_stop ≡ true) ⊎ (w.saw_mark ≡ true)

-- one look, at the stop word, which says the answer: it is 1 where the seat runs an entry
pub record LooksOnce (before after : WorkerView) (answer : Bool) : Type 0 where
  pub view : after ≡ after_stop_look 1 after.trace.word before
  pub answer_is : answer ≡ (after.trace.word == 1)
  pub runs : IsRunning before → after.trace.word ≡ 1

-- two looks: the stop word was 0, and the mark of the entry that the seat runs says the answer
pub record LooksTwice (before after : WorkerView) (answer : Bool) : Type 0 where
  pub runs : IsRunning before
  pub view : after ≡ after_mark_look (slot (key_width before.problem) (ticket_in before.stage) 0) after.trace.word (after_stop_look 1 0 before)
  pub answer_is : answer ≡ has_mark after.trace.word
