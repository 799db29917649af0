-- The rule: what holds of the words and of all views between any two steps, whoever makes them, in eight parts.
-- Own to this project.
use Rattle.std.specs.Prelude.{◌≡◌, ◌↔◌, ◌≢◌, ℕ, ◌+◌, ◌*◌, ◌<◌, ◌≤◌, Bool, true, false, List, [], ◌∷◌, length, slice_index, Some, Contains, if◌then◌else◌}
use mathlib.Core.Option.{Option, none, some}
use lib.ListN.{get_elem?}
use Rattle.atomic_table.specs.Table.{State}
use Rattle.req_keys.specs.Words.{word_of}
use Rattle.req_keys.specs.declared.verdict.Verdict.{Verdict}
use Rattle.req_keys.specs.declared.verdict.Cell.{Cell}
use Rattle.req_keys.specs.declared.verdict.Cell.TheVariants.{Empty, Posted, Running, Mine, GivenUp, Answered}
use Rattle.clauses.specs.Problem.{ClauseProblem}
use Rattle.check_table.specs.Places.{key_width, slot, code, stop_code, IsKeyOf, IsVerdictOf}
use Rattle.check_table.specs.Views.{no_trace}
use Rattle.check_table.specs.declared.view.KnownEntry.{KnownEntry}
use Rattle.check_table.specs.declared.view.MainView.{MainView}
use Rattle.check_table.specs.declared.view.WorkerView.{WorkerView}
use Rattle.check_table.specs.declared.view.Stage.{Stage}
use Rattle.check_table.specs.declared.view.Stage.TheVariants.{Idle, Holds, Runs}
use Rattle.check_table.specs.declared.view.View.{View}
use Rattle.check_table.specs.declared.view.View.TheVariants.{Main, Worker, Spent}

-- the words of a table, and the view of each seat
abbrev pub TableState : Type 0
TableState = State (Unit {0}) View

-- what holds of each worker's view, by the number of its seat
abbrev pub EachWorker : List View → (ℕ → WorkerView → Type 0) → Type 0
EachWorker views P = (id : ℕ) (w : WorkerView) → get_elem? views id ≡ some (Worker w) → P id w

-- what holds of each entry that the main seat posted
abbrev pub EachEntry : MainView → (ℕ → KnownEntry → Type 0) → Type 0
EachEntry main P = (t : ℕ) (e : KnownEntry) → get_elem? main.entries t ≡ some e → P t e

-- whether the main seat cancelled the entry
abbrev pub mark_in : Option KnownEntry → Bool
mark_in none = false
mark_in (some e) = e.cancelled

abbrev pub marked : List KnownEntry → ℕ → Bool
marked entries t = mark_in (get_elem? entries t)

-- 1. every seat knows the table's problem and size
pub record ProblemStands (p : ClauseProblem) (size : ℕ) (views : List View) (main : MainView) : Type 0 where
  pub main_seat : (main.problem ≡ p) × (main.size ≡ size)
  pub workers : EachWorker views (λ id w. (w.problem ≡ p) × (w.size ≡ size))

-- 2. the words of each posted key stand at its entry, those that are written of the next key at the next one, and past
-- the posted entries the cells are Empty
pub record KeysStand (p : ClauseProblem) (size : ℕ) (words : List ℕ) (main : MainView) (cells : ℕ → Cell) : Type 0 where
  pub sized : length words ≡ 2 + size * (1 + key_width p)
  pub few : length main.entries ≤ size
  pub keys : EachEntry main (λ t e. IsKeyOf p e.key)
  pub key_words : EachEntry main (λ t e. (j : ℕ) → j < key_width p → slice_index words (slot (key_width p) t (1 + j)) ≡ word_of e.key j)
  pub row : length main.written ≤ key_width p
  pub next : (j : ℕ) → j < length main.written → length main.entries < size → slice_index words (slot (key_width p) (length main.entries) (1 + j)) ≡ slice_index main.written j
  pub past : (t : ℕ) → length main.entries ≤ t → cells t ≡ Empty
  pub there : EachEntry main (λ t e. cells t ≢ Empty)

-- the seat is a worker's with this number, which runs the entry
pub record RunsThere (views : List View) (id t n : ℕ) : Type 0 where
  pub view : WorkerView
  pub read : List (ℕ × ℕ)
  pub at : get_elem? views id ≡ some (Worker view)
  pub number : view.number ≡ n
  pub runs : view.stage ≡ Runs t read

-- 3. each state word is the code of its entry's cell, with the mark where the main seat cancelled the entry. Where a
-- worker runs an entry its cell is Running with that worker's number, and Running without the mark is such a worker's
pub record StatesStand (p : ClauseProblem) (size : ℕ) (words : List ℕ) (views : List View) (main : MainView) (cells : ℕ → Cell) (owner : ℕ → ℕ) : Type 0 where
  pub codes : (t : ℕ) → t < size → slice_index words (slot (key_width p) t 0) ≡ code (cells t) (marked main.entries t)
  pub numbers : (t n : ℕ) → cells t ≡ Running n → n ≤ 64
  pub running : EachWorker views (λ id w. (t : ℕ) (read : List (ℕ × ℕ)) → w.stage ≡ Runs t read → cells t ≡ Running w.number)
  pub runner : (t n : ℕ) → cells t ≡ Running n → marked main.entries t ≡ false → RunsThere views (owner t) t n

-- a worker has begun the entry
abbrev pub IsBegun : Cell → Type 0
IsBegun Empty = ⊥
IsBegun Posted = ⊥
IsBegun Mine = ⊥
IsBegun (Running n) = Unit {0}
IsBegun GivenUp = Unit {0}
IsBegun (Answered v) = Unit {0}

-- the ticket of the stage, if it has one, is drawn and belongs to this seat. An entry whose ticket is held and not run
-- isn't begun
abbrev pub TicketStands : (ℕ → Cell) → (ℕ → ℕ) → ℕ → ℕ → Stage → Type 0
TicketStands cells owner cursor id Idle = Unit {0}
TicketStands cells owner cursor id (Holds t) = (t < cursor) × (owner t ≡ id) × (IsBegun (cells t) → ⊥)
TicketStands cells owner cursor id (Runs t read) = (t < cursor) × (owner t ≡ id)

-- how many views are a worker's, and how many a worker's that met NoMore
abbrev pub is_live : View → ℕ
is_live (Main m) = 0
is_live (Worker w) = 1
is_live Spent = 0

abbrev pub is_done : View → ℕ
is_done (Main m) = 0
is_done (Worker w) = if w.done then 1 else 0
is_done Spent = 0

abbrev pub total : (View → ℕ) → List View → ℕ
total f [] = 0
total f (v ∷ vs) = f v + total f vs

-- the cursor passed the last entry at most once for each worker that met NoMore; the main seat counts those that left
pub record CountsStand (size : ℕ) (views : List View) (main : MainView) (cursor : ℕ) : Type 0 where
  pub reached : cursor ≤ size + total is_done views + main.left_done
  pub live : total is_live views + main.left ≡ main.made
  pub left : main.left_done ≤ main.left
  pub made : main.made ≤ 64
  pub small : size ≤ 4096

-- 4. tickets are drawn, each belongs to one seat, and so does each worker's number; begun entries are drawn
pub record TicketsStand (size cursor : ℕ) (views : List View) (main : MainView) (cells : ℕ → Cell) (owner holder : ℕ → ℕ) : Type 0 where
  pub tickets : EachWorker views (λ id w. TicketStands cells owner cursor id w.stage)
  pub numbers : EachWorker views (λ id w. (1 ≤ w.number) × (w.number ≤ main.made) × (holder w.number ≡ id))
  pub counts : CountsStand size views main cursor
  pub begun : (t : ℕ) → IsBegun (cells t) → t < cursor

-- the pairs of place and word are of the key of a posted entry
pub record ReadOf (main : MainView) (t : ℕ) (read : List (ℕ × ℕ)) : Type 0 where
  pub entry : KnownEntry
  pub at : get_elem? main.entries t ≡ some entry
  pub words : (j n : ℕ) → Contains read (j, n) → n ≡ word_of entry.key j

-- 5. what a worker has read since its claim are words of the key of the entry that it runs
abbrev pub ReadsStand : List View → MainView → Type 0
ReadsStand views main = EachWorker views (λ id w. (t : ℕ) (read : List (ℕ × ℕ)) → w.stage ≡ Runs t read → ReadOf main t read)

-- 6. an answer is the verdict of its entry's key
abbrev pub AnswersStand : ClauseProblem → MainView → (ℕ → Cell) → Type 0
AnswersStand p main cells = EachEntry main (λ t e. (v : Verdict) → cells t ≡ Answered v → IsVerdictOf p e.key v)

-- 7. what the main seat saw answered still is, and the cells are Mine exactly at the entries that it took
pub record SeenStands (main : MainView) (cells : ℕ → Cell) : Type 0 where
  pub seen : EachEntry main (λ t e. (v : Verdict) → e.seen ≡ Some v → cells t ≡ Answered v)
  pub mine : EachEntry main (λ t e. (cells t ≡ Mine) ↔ (e.mine ≡ true))

-- the mark stands on the entry that the stage runs
abbrev pub MarkStands : List KnownEntry → Stage → Type 0
MarkStands entries Idle = Unit {0}
MarkStands entries (Holds t) = Unit {0}
MarkStands entries (Runs t read) = marked entries t ≡ true

-- 8. the stop word is 1 exactly where the main seat stopped the table, and what a worker saw of it and of its entry's
-- mark still stands
pub record StopStands (words : List ℕ) (views : List View) (main : MainView) : Type 0 where
  pub word : slice_index words 1 ≡ stop_code main.stopped
  pub stop : EachWorker views (λ id w. w.saw_stop ≡ true → main.stopped ≡ true)
  pub mark : EachWorker views (λ id w. w.saw_mark ≡ true → MarkStands main.entries w.stage)

-- the main seat has number 0; each entry has a cell, each drawn ticket a seat that owns it, and each worker's number a
-- seat that holds it
pub record Rule (p : ClauseProblem) (size : ℕ) (s : TableState) : Type 0 where
  pub main : MainView
  pub cells : ℕ → Cell
  pub owner : ℕ → ℕ
  pub holder : ℕ → ℕ
  pub main_at : get_elem? s.views 0 ≡ some (Main main)
  pub only : (id : ℕ) (m : MainView) → get_elem? s.views id ≡ some (Main m) → id ≡ 0
  pub problem : ProblemStands p size s.views main
  pub keys : KeysStand p size s.words main cells
  pub states : StatesStand p size s.words s.views main cells owner
  pub tickets : TicketsStand size (slice_index s.words 0) s.views main cells owner holder
  pub reads : ReadsStand s.views main
  pub answers : AnswersStand p main cells
  pub seen : SeenStands main cells
  pub stop : StopStands s.words s.views main

-- the main seat of a new table
abbrev pub opened : ClauseProblem → ℕ → MainView
opened p size = record { problem = p; size = size; entries = []; written = []; stopped = false; made = 0; left = 0; left_done = 0; trace = no_trace }
