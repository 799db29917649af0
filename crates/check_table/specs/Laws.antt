-- What the rule means: who runs what, what an answer says, and which event on the board each step is.
use Rattle.std.specs.Prelude.{◌≡◌, ◌⊎◌, ◌≢◌, ℕ, ◌+◌, ◌<◌, ◌≤◌, Bool, true, false, List, [], ◌∷◌, ◌++◌, length, slice_index, slice_set, bit_or, if◌then◌else◌, ◌==◌, Some}
use mathlib.Core.Option.{some}
use lib.ListN.{get_elem?}
use Rattle.atomic_table.specs.Table.{keeps, stepped}
use Rattle.req_keys.specs.Key.{PositionSet}
use Rattle.req_keys.specs.Words.{words_of}
use Rattle.req_keys.specs.declared.verdict.Verdict.{Verdict}
use Rattle.req_keys.specs.declared.verdict.Cell.TheVariants.{Answered, GivenUp, Mine, Running}
use Rattle.clauses.specs.Problem.{ClauseProblem}
use Rattle.board.specs.declared.state.Board.{Board}
use Rattle.board.specs.Board.{fresh_board}
use Rattle.board.specs.Events.{BoardEvent, Post, Draw, Claim, Answer, GiveUp, Cancel, Take, Stop, Leave, board_after}
use Rattle.check_table.specs.Places.{key_width, slot, code, IsKeyOf, IsVerdictOf}
use Rattle.check_table.specs.Views.{after_draw, after_claim, after_read, after_answer, after_stop_look, after_mark_look, after_write, after_post, after_look, after_take, after_cancel, after_stop, after_seat, newcomer, after_leave, answer_met}
use Rattle.check_table.specs.Found.{IsWanted, LooksOnce, LooksTwice}
use Rattle.check_table.specs.Rule.{Rule, TableState, opened}
use Rattle.check_table.specs.Board.{state_word, board_of}
use Rattle.check_table.specs.declared.view.KnownEntry.{KnownEntry}
use Rattle.check_table.specs.declared.view.MainView.{MainView}
use Rattle.check_table.specs.declared.view.WorkerView.{WorkerView}
use Rattle.check_table.specs.declared.view.Stage.TheVariants.{Idle, Holds, Runs}
use Rattle.check_table.specs.declared.view.View.TheVariants.{Main, Worker, Spent}

-- the seat with this number is a worker's with this view; the main seat has this view
abbrev pub HasWorker : TableState → ℕ → WorkerView → Type 0
HasWorker s id w = get_elem? s.views id ≡ some (Worker w)

abbrev pub HasMain : TableState → MainView → Type 0
HasMain s m = get_elem? s.views 0 ≡ some (Main m)

-- whatever holds wherever the rule does
abbrev pub UnderRule : (ClauseProblem → ℕ → TableState → Type 0) → Type 0
UnderRule P = (p : ClauseProblem) (size : ℕ) (s : TableState) → Rule p size s → P p size s

-- ---- who runs what, and what an answer says

abbrev pub OneRunner : Type 0
OneRunner = UnderRule (λ p size s. (i j : ℕ) (v w : WorkerView) (t : ℕ) (a b : List (ℕ × ℕ)) → HasWorker s i v → HasWorker s j w → v.stage ≡ Runs t a → w.stage ≡ Runs t b → i ≡ j)

abbrev pub AnswersAreRight : Type 0
AnswersAreRight = UnderRule (λ p size s. (m : MainView) (t : ℕ) (e : KnownEntry) (v : Verdict) (mark : Bool)
    → HasMain s m → get_elem? m.entries t ≡ some e → state_word p s.words t ≡ code (Answered v) mark → IsVerdictOf p e.key v)

-- the state word of an entry that the main seat took isn't Posted, and nobody runs it
abbrev pub MineIsUnclaimed : Type 0
MineIsUnclaimed = UnderRule (λ p size s. (m : MainView) (t : ℕ) (e : KnownEntry) → HasMain s m → get_elem? m.entries t ≡ some e → e.mine ≡ true
    → (state_word p s.words t ≢ 1) × ((id : ℕ) (w : WorkerView) (read : List (ℕ × ℕ)) → HasWorker s id w → w.stage ≡ Runs t read → ⊥))

-- what the main seat saw answered stands there, and a further look or take leaves it seen
abbrev pub SeenStays : Type 0
SeenStays = UnderRule (λ p size s. (m : MainView) (t : ℕ) (e : KnownEntry) (v : Verdict) → HasMain s m → get_elem? m.entries t ≡ some e → e.seen ≡ Some v
    → (state_word p s.words t ≡ code (Answered v) e.cancelled) × (answer_met (state_word p s.words t) e.seen ≡ Some v))

-- ---- what a call of `stopped` leaves

abbrev pub Looked : WorkerView → WorkerView → Bool → Type 0
Looked before after answer = LooksOnce before after answer ⊎ LooksTwice before after answer

-- all but what was seen is as it was, what was seen stays seen, and on true the stop or the mark was seen
pub record LeavesTheRest (before after : WorkerView) (answer : Bool) : Type 0 where
  pub problem : after.problem ≡ before.problem
  pub size : after.size ≡ before.size
  pub number : after.number ≡ before.number
  pub stage : after.stage ≡ before.stage
  pub done : after.done ≡ before.done
  pub stop : before.saw_stop ≡ true → after.saw_stop ≡ true
  pub mark : before.saw_mark ≡ true → after.saw_mark ≡ true
  pub cause : answer ≡ true → (after.saw_stop ≡ true) ⊎ (after.saw_mark ≡ true)

abbrev pub LooksLeaveTheRest : Type 0
LooksLeaveTheRest = (before after : WorkerView) (answer : Bool) → Looked before after answer → LeavesTheRest before after answer

-- ---- steps as events

-- a function that gives each key its verdict
abbrev pub AreVerdicts : ClauseProblem → (PositionSet → Verdict) → Type 0
AreVerdicts p verdict = (key : PositionSet) → IsVerdictOf p key (verdict key)

-- the second board comes of the first by the event
abbrev pub IsEvent : ClauseProblem → BoardEvent → Board → Board → Type 0
IsEvent p event before after = (verdict : PositionSet → Verdict) → AreVerdicts p verdict → board_after (length p.roots) verdict event before ≡ Some after

-- the board as if it weren't stopped
abbrev pub unstopped : Board → Board
unstopped board = record board { stopped = false }

-- the event where the board isn't stopped; on a stopped board it is changed as the event would change it
pub record IsEventUnlessStopped (p : ClauseProblem) (event : BoardEvent) (before after : Board) : Type 0 where
  pub running : before.stopped ≡ false → IsEvent p event before after
  pub stopped : IsEvent p event (unstopped before) (unstopped after)
  pub same : after.stopped ≡ before.stopped

-- a worker's step, and one of the main seat: the word at the place becomes n, and the seat has another view
abbrev pub worker_steps : TableState → ℕ → ℕ → ℕ → WorkerView → TableState
worker_steps s place n id w = stepped s place n id [] (Worker w) keeps

abbrev pub main_steps : TableState → ℕ → ℕ → MainView → TableState
main_steps s place n m = stepped s place n 0 [] (Main m) keeps

abbrev pub IsDraw : Type 0
IsDraw = UnderRule (λ p size s. (id : ℕ) (w : WorkerView) → HasWorker s id w → w.stage ≡ Idle → let n : ℕ = slice_index s.words 0 in n < size
    → IsEventUnlessStopped p (Draw w.number) (board_of p size s) (board_of p size (worker_steps s 0 (n + 1) id (after_draw 0 n w))))

-- past the last entry
abbrev pub IsNoDraw : Type 0
IsNoDraw = UnderRule (λ p size s. (id : ℕ) (w : WorkerView) → HasWorker s id w → w.stage ≡ Idle → let n : ℕ = slice_index s.words 0 in size ≤ n
    → board_of p size (worker_steps s 0 (n + 1) id (after_draw 0 n w)) ≡ board_of p size s)

-- what a compare_exchange leaves of the word x
abbrev pub exchanged : ℕ → ℕ → ℕ → ℕ
exchanged old new x = if x == old then new else x

abbrev pub IsClaim : Type 0
IsClaim = UnderRule (λ p size s. (id : ℕ) (w : WorkerView) (t place : ℕ) → HasWorker s id w → w.stage ≡ Holds t → t < size → let x : ℕ = state_word p s.words t in
    IsEvent p (Claim w.number) (board_of p size s) (board_of p size (worker_steps s (slot (key_width p) t 0) (exchanged 1 (code (Running w.number) false) x) id (after_claim place x w))))

abbrev pub IsAnswer : Type 0
IsAnswer = UnderRule (λ p size s. (id : ℕ) (w : WorkerView) (t place : ℕ) (read : List (ℕ × ℕ)) (v : Verdict) → HasWorker s id w → w.stage ≡ Runs t read → t < size → let x : ℕ = state_word p s.words t in
    ((m : MainView) (e : KnownEntry) → HasMain s m → get_elem? m.entries t ≡ some e → IsVerdictOf p e.key v)
    → IsEvent p (Answer w.number) (board_of p size s) (board_of p size (worker_steps s (slot (key_width p) t 0) (exchanged (code (Running w.number) false) (code (Answered v) false) x) id (after_answer place x w))))

abbrev pub IsGiveUp : Type 0
IsGiveUp = UnderRule (λ p size s. (id : ℕ) (w : WorkerView) (t place : ℕ) (read : List (ℕ × ℕ)) → HasWorker s id w → w.stage ≡ Runs t read → t < size → let x : ℕ = state_word p s.words t in
    IsEvent p (GiveUp w.number) (board_of p size s) (board_of p size (worker_steps s (slot (key_width p) t 0) (exchanged (code (Running w.number) false) (code GivenUp false) x) id (after_answer place x w))))

-- a worker's looks and reads: the word stays, and so does the board
abbrev pub IsLook : Type 0
IsLook = UnderRule (λ p size s. (id : ℕ) (w : WorkerView) (i place j n : ℕ) → HasWorker s id w → let x : ℕ = slice_index s.words i in
    (board_of p size (worker_steps s i x id (after_stop_look place n w)) ≡ board_of p size s)
    × (board_of p size (worker_steps s i x id (after_mark_look place n w)) ≡ board_of p size s)
    × (board_of p size (worker_steps s i x id (after_read j place n w)) ≡ board_of p size s))

abbrev pub IsMainLook : Type 0
IsMainLook = UnderRule (λ p size s. (m : MainView) (i t place n : ℕ) → HasMain s m → board_of p size (main_steps s i (slice_index s.words i) (after_look t place n m)) ≡ board_of p size s)

-- a take that meets 1, and one that meets another word
abbrev pub IsTake : Type 0
IsTake = UnderRule (λ p size s. (m : MainView) (t place : ℕ) → HasMain s m → IsWanted m t → let x : ℕ = state_word p s.words t in
    let s' : TableState = main_steps s (slot (key_width p) t 0) (exchanged 1 (code Mine false) x) (after_take t place x m) in
    (x ≡ 1 → IsEvent p (Take t) (board_of p size s) (board_of p size s')) × (x ≢ 1 → board_of p size s' ≡ board_of p size s))

abbrev pub IsWrite : Type 0
IsWrite = UnderRule (λ p size s. (m : MainView) (x : ℕ) → HasMain s m → length m.written < key_width p → length m.entries < size
    → board_of p size (main_steps s (slot (key_width p) (length m.entries) (1 + length m.written)) x (after_write x m)) ≡ board_of p size s)

abbrev pub IsPost : Type 0
IsPost = UnderRule (λ p size s. (m : MainView) (key : PositionSet) → HasMain s m → IsKeyOf p key → m.written ≡ words_of key → length m.entries < size
    → IsEventUnlessStopped p (Post key) (board_of p size s) (board_of p size (main_steps s (slot (key_width p) (length m.entries) 0) 1 (after_post m))))

abbrev pub IsCancel : Type 0
IsCancel = UnderRule (λ p size s. (m : MainView) (t place : ℕ) → HasMain s m → IsWanted m t → let x : ℕ = state_word p s.words t in
    IsEvent p (Cancel t) (board_of p size s) (board_of p size (main_steps s (slot (key_width p) t 0) (bit_or x 8) (after_cancel t place x m))))

-- a stop, and a second one
abbrev pub IsStop : Type 0
IsStop = UnderRule (λ p size s. (m : MainView) → HasMain s m → let s' : TableState = main_steps s 1 1 (after_stop m) in
    (m.stopped ≡ false → IsEvent p Stop (board_of p size s) (board_of p size s')) × (m.stopped ≡ true → board_of p size s' ≡ board_of p size s))

-- a worker's seat is split from the main seat
abbrev pub IsSplit : Type 0
IsSplit = UnderRule (λ p size s. (m : MainView) → HasMain s m
    → board_of p size (record { words = s.words; homes = s.homes; views = slice_set s.views 0 (Main (after_seat m)) ++ Worker (newcomer m) ∷ [] }) ≡ board_of p size s)

-- a worker's seat is joined to the main seat, without a ticket, or with one that it doesn't run
abbrev pub IsJoin : Type 0
IsJoin = UnderRule (λ p size s. (m : MainView) (id : ℕ) (w : WorkerView) → HasMain s m → HasWorker s id w →
    let s' : TableState = record { words = s.words; homes = s.homes; views = slice_set (slice_set s.views 0 (Main (after_leave w m))) id Spent } in
    (w.stage ≡ Idle → board_of p size s' ≡ board_of p size s)
    × ((t : ℕ) → w.stage ≡ Holds t → w.saw_stop ≡ true → IsEvent p (Leave w.number) (board_of p size s) (board_of p size s')))

-- a new table: its words are 0, and the main seat is the only one
abbrev pub IsFresh : Type 0
IsFresh = (p : ClauseProblem) (size : ℕ) (words : List ℕ) → ((i : ℕ) → slice_index words i ≡ 0)
    → board_of p size (record { words = words; homes = []; views = Main (opened p size) ∷ [] }) ≡ fresh_board 64 size
