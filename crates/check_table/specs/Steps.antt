-- The kinds of step: what each does to the view of the seat that makes it, and what it tells that seat by the rule.
use Rattle.std.specs.Prelude.{◌≡◌, ◌≢◌, ℕ, ◌+◌, ◌<◌, ◌≤◌, ◌⊎◌, Bool, true, Some}
use mathlib.Core.Option.{some}
use lib.ListN.{get_elem?}
use Rattle.atomic_table.specs.Table.{Me, Step}
use Rattle.req_keys.specs.Key.{PositionSet}
use Rattle.req_keys.specs.Words.{word_of}
use Rattle.req_keys.specs.declared.verdict.Verdict.{Verdict}
use Rattle.req_keys.specs.declared.verdict.Cell.{Cell}
use Rattle.req_keys.specs.declared.verdict.Cell.TheVariants.{Empty, Running, Mine, Answered}
use Rattle.clauses.specs.Problem.{ClauseProblem}
use Rattle.check_table.specs.Places.{key_width, slot, code, IsKeyOf, IsVerdictOf}
use Rattle.check_table.specs.Views.{after_draw, after_claim, after_read, after_answer, after_stop_look, after_mark_look, after_write, after_post, after_look, after_take, after_stop, after_cancel, after_seat, newcomer, after_leave}
use Rattle.check_table.specs.Found.{ticket_in}
use Rattle.check_table.specs.Rule.{IsBegun}
use Rattle.check_table.specs.declared.view.KnownEntry.{KnownEntry}
use Rattle.check_table.specs.declared.view.MainView.{MainView}
use Rattle.check_table.specs.declared.view.WorkerView.{WorkerView}
use Rattle.check_table.specs.declared.view.View.{View}
use Rattle.check_table.specs.declared.view.View.TheVariants.{Main, Worker, Spent}

-- a seat, which holds no slots, and a step
abbrev pub Seat : Type 0
Seat = Me (Unit {0}) View

abbrev pub AStep : Type 0
AStep = Step (Unit {0})

-- a worker's view changes, or that of the main seat
abbrev pub by_worker : (WorkerView → WorkerView) → View → View
by_worker f (Main m) = Main m
by_worker f (Worker w) = Worker (f w)
by_worker f Spent = Spent

abbrev pub by_main : (MainView → MainView) → View → View
by_main f (Main m) = Main (f m)
by_main f (Worker w) = Worker w
by_main f Spent = Spent

abbrev pub width_in : View → ℕ
width_in (Main m) = key_width m.problem
width_in (Worker w) = key_width w.problem
width_in Spent = 0

abbrev pub ticket_of_view : View → ℕ
ticket_of_view (Main m) = 0
ticket_of_view (Worker w) = ticket_in w.stage
ticket_of_view Spent = 0

abbrev pub draws : AStep → Seat → ℕ → Seat → Type 0
draws st me n me' = me' ≡ (by_worker (after_draw st.word n) me.0, me.1)

-- a claim meets no entry that is begun, unless it has the mark
abbrev pub Claimable : ℕ → Type 0
Claimable n = (c : Cell) × (m : Bool) × (n ≡ code c m) × (IsBegun c → ⊥)

abbrev pub claims : AStep → Seat → ℕ → Seat → Type 0
claims st me n me' = (me' ≡ (by_worker (after_claim st.word n) me.0, me.1)) × Claimable n

-- a word that is read is of a key of the problem
abbrev pub KeyWord : View → ℕ → ℕ → Type 0
KeyWord (Main m) j n = Unit {0}
KeyWord (Worker w) j n = (key : PositionSet) × IsKeyOf w.problem key × (n ≡ word_of key j)
KeyWord Spent j n = Unit {0}

abbrev pub reads : AStep → Seat → ℕ → Seat → Type 0
reads st me n me' = (j : ℕ) → st.word ≡ slot (width_in me.0) (ticket_of_view me.0) (1 + j) → j < width_in me.0
    → (me' ≡ (by_worker (after_read j st.word n) me.0, me.1)) × KeyWord me.0 j n

-- an answer meets the cell that the worker runs, with or without the mark
abbrev pub OwnRun : View → ℕ → Type 0
OwnRun (Main m) n = Unit {0}
OwnRun (Worker w) n = (mark : Bool) × (n ≡ code (Running w.number) mark)
OwnRun Spent n = Unit {0}

abbrev pub answers : AStep → Seat → ℕ → Seat → Type 0
answers st me n me' = (me' ≡ (by_worker (after_answer st.word n) me.0, me.1)) × OwnRun me.0 n

abbrev pub looks_at_stop : AStep → Seat → ℕ → Seat → Type 0
looks_at_stop st me n me' = (me' ≡ (by_worker (after_stop_look st.word n) me.0, me.1)) × ((n ≡ 0) ⊎ (n ≡ 1))

abbrev pub looks_at_mark : AStep → Seat → ℕ → Seat → Type 0
looks_at_mark st me n me' = me' ≡ (by_worker (after_mark_look st.word n) me.0, me.1)

abbrev pub writes : AStep → Seat → ℕ → Seat → Type 0
writes st me n me' = me' ≡ (by_main (after_write n) me.0, me.1)

abbrev pub posts : AStep → Seat → ℕ → Seat → Type 0
posts st me n me' = me' ≡ (by_main after_post me.0, me.1)

abbrev pub stops : AStep → Seat → ℕ → Seat → Type 0
stops st me n me' = me' ≡ (by_main after_stop me.0, me.1)

-- what the state word of an entry tells the main seat: a cell of a posted entry, with the mark where it was cancelled.
-- The entry is Mine where it was taken, what was seen answered still is, and an answer is right
pub record Told (p : ClauseProblem) (e : KnownEntry) (n : ℕ) : Type 0 where
  pub cell : Cell
  pub word : n ≡ code cell e.cancelled
  pub there : cell ≢ Empty
  pub mine : (cell ≡ Mine) → e.mine ≡ true
  pub number : (worker : ℕ) → cell ≡ Running worker → worker ≤ 64
  pub right : (v : Verdict) → cell ≡ Answered v → IsVerdictOf p e.key v
  pub kept : (v : Verdict) → e.seen ≡ Some v → cell ≡ Answered v

abbrev pub Tells : View → ℕ → ℕ → Type 0
Tells (Main m) t n = (e : KnownEntry) → get_elem? m.entries t ≡ some e → Told m.problem e n
Tells (Worker w) t n = Unit {0}
Tells Spent t n = Unit {0}

-- a step of the main seat on the state word of an entry: the place tells which
abbrev pub looks : AStep → Seat → ℕ → Seat → Type 0
looks st me n me' = (t : ℕ) → st.word ≡ slot (width_in me.0) t 0 → (me' ≡ (by_main (after_look t st.word n) me.0, me.1)) × Tells me.0 t n

abbrev pub takes : AStep → Seat → ℕ → Seat → Type 0
takes st me n me' = (t : ℕ) → st.word ≡ slot (width_in me.0) t 0 → (me' ≡ (by_main (after_take t st.word n) me.0, me.1)) × Tells me.0 t n

abbrev pub cancels : AStep → Seat → ℕ → Seat → Type 0
cancels st me n me' = (t : ℕ) → st.word ≡ slot (width_in me.0) t 0 → me' ≡ (by_main (after_cancel t st.word n) me.0, me.1)

-- how a worker's seat is split from the main seat, and joined to it again
abbrev pub left_of_split : View → View
left_of_split v = by_main after_seat v

abbrev pub right_of_split : View → View
right_of_split (Main m) = Worker (newcomer m)
right_of_split (Worker w) = Spent
right_of_split Spent = Spent

abbrev pub both_joined : View → View → View
both_joined (Main m) (Worker w) = Main (after_leave w m)
both_joined (Main m) (Main k) = Main m
both_joined (Main m) Spent = Main m
both_joined (Worker w) v = Worker w
both_joined Spent v = Spent
