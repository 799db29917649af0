-- Worked examples on boards. Each computes.
use Rattle.std.specs.Prelude.{◌≡◌, ℕ, Bool, true, false, List, [], ◌∷◌, Option, Some, None, refl}
use Rattle.req_keys.specs.Key.{PositionSet, empty_key, full_key}
use Rattle.req_keys.specs.declared.verdict.Verdict.{Verdict}
use Rattle.req_keys.specs.declared.verdict.Verdict.TheVariants as verdict
use Rattle.req_keys.specs.declared.verdict.Cell.{Cell}
use Rattle.req_keys.specs.declared.verdict.Cell.TheVariants as cell
use Rattle.board.specs.declared.state.Entry.{Entry}
use Rattle.board.specs.declared.state.Board.{Board}
use Rattle.board.specs.Board.{fresh_board}
use Rattle.board.specs.Events.{BoardEvent, Post, Draw, Claim, Answer, GiveUp, Cancel, Take, Stop, Leave, Round, board_after}

-- over one position, where only the empty set can be met
abbrev verdicts : PositionSet → Verdict
verdicts key = elim key.members [ [] ↦ verdict.Sat | first ∷ others ↦ verdict.Unsat ]

abbrev after : BoardEvent → Board → Option Board
after event board = board_after 1 verdicts event board

abbrev board_of : List Entry → ℕ → List (Option ℕ) → Bool → Board
board_of entries cursor tickets stopped = record { entries = entries; cursor = cursor; tickets = tickets; stopped = stopped; size = 2 }

-- an entry with the key {1}, or with no position
abbrev one : Cell → Bool → Entry
one cell cancelled = record { key = full_key 1; cell = cell; cancelled = cancelled }

abbrev none : Cell → Bool → Entry
none cell cancelled = record { key = empty_key 1; cell = cell; cancelled = cancelled }

pub starts : fresh_board 2 2 ≡ board_of [] 0 (None ∷ None ∷ []) false
starts = refl

-- a board with room takes a key over the right number of positions, a full one or a stopped one doesn't
pub posts : after (Post (full_key 1)) (board_of [] 0 [] false) ≡ Some (board_of (one cell.Posted false ∷ []) 0 [] false)
posts = refl

pub posts-other_n : after (Post (full_key 2)) (board_of [] 0 [] false) ≡ None
posts-other_n = refl

pub posts-full : after (Post (full_key 1)) (board_of (one cell.Posted false ∷ one cell.Posted false ∷ []) 0 [] false) ≡ None
posts-full = refl

pub posts-stopped : after (Post (full_key 1)) (board_of [] 0 [] true) ≡ None
posts-stopped = refl

-- a ticket may be drawn before anything is posted
pub draws : after (Draw 2) (board_of [] 0 (None ∷ None ∷ []) false) ≡ Some (board_of [] 1 (None ∷ Some 0 ∷ []) false)
draws = refl

pub draws-twice : after (Draw 2) (board_of [] 1 (None ∷ Some 0 ∷ []) false) ≡ None
draws-twice = refl

pub draws-last : after (Draw 1) (board_of [] 2 (None ∷ []) false) ≡ None
draws-last = refl

pub draws-stopped : after (Draw 1) (board_of [] 0 (None ∷ []) true) ≡ None
draws-stopped = refl

-- workers are numbered from 1
pub draws-nobody : (after (Draw 0) (board_of [] 0 (None ∷ []) false) ≡ None) × (after (Draw 2) (board_of [] 0 (None ∷ []) false) ≡ None)
draws-nobody = (refl, refl)

-- a claim before the post changes nothing, one after it runs the entry
pub claims-early : after (Claim 1) (board_of [] 1 (Some 0 ∷ []) false) ≡ Some (board_of [] 1 (Some 0 ∷ []) false)
claims-early = refl

pub claims : after (Claim 1) (board_of (one cell.Posted false ∷ []) 1 (Some 0 ∷ []) false) ≡ Some (board_of (one (cell.Running 1) false ∷ []) 1 (Some 0 ∷ []) false)
claims = refl

-- also on a stopped board
pub claims-stopped : after (Claim 1) (board_of (one cell.Posted false ∷ []) 1 (Some 0 ∷ []) true) ≡ Some (board_of (one (cell.Running 1) false ∷ []) 1 (Some 0 ∷ []) true)
claims-stopped = refl

-- a marked entry and one that is taken cost the ticket
pub claims-marked : after (Claim 1) (board_of (one cell.Posted true ∷ []) 1 (Some 0 ∷ []) false) ≡ Some (board_of (one cell.Posted true ∷ []) 1 (None ∷ []) false)
claims-marked = refl

pub claims-taken : after (Claim 1) (board_of (one cell.Mine false ∷ []) 1 (Some 0 ∷ []) false) ≡ Some (board_of (one cell.Mine false ∷ []) 1 (None ∷ []) false)
claims-taken = refl

pub claims-running : after (Claim 1) (board_of (one (cell.Running 1) false ∷ []) 1 (Some 0 ∷ []) false) ≡ None
claims-running = refl

pub claims-without : after (Claim 1) (board_of (one cell.Posted false ∷ []) 1 (None ∷ []) false) ≡ None
claims-without = refl

-- an answer is the verdict of the entry's key
pub answers : after (Answer 1) (board_of (none cell.Posted false ∷ one (cell.Running 1) false ∷ []) 2 (Some 1 ∷ []) false)
    ≡ Some (board_of (none cell.Posted false ∷ one (cell.Answered verdict.Unsat) false ∷ []) 2 (None ∷ []) false)
answers = refl

-- with the mark it is lost
pub answers-marked : after (Answer 1) (board_of (none (cell.Running 1) true ∷ []) 1 (Some 0 ∷ []) false) ≡ Some (board_of (none (cell.Running 1) true ∷ []) 1 (None ∷ []) false)
answers-marked = refl

-- only who runs the entry answers
pub answers-other : after (Answer 1) (board_of (none (cell.Running 2) false ∷ []) 1 (Some 0 ∷ None ∷ []) false) ≡ None
answers-other = refl

pub gives_up : after (GiveUp 1) (board_of (none (cell.Running 1) false ∷ []) 1 (Some 0 ∷ []) false) ≡ Some (board_of (none cell.GivenUp false ∷ []) 1 (None ∷ []) false)
gives_up = refl

pub gives_up-marked : after (GiveUp 1) (board_of (none (cell.Running 1) true ∷ []) 1 (Some 0 ∷ []) false) ≡ Some (board_of (none (cell.Running 1) true ∷ []) 1 (None ∷ []) false)
gives_up-marked = refl

-- an entry is cancelled once, whatever stands there but Mine
pub cancels : after (Cancel 0) (board_of (none (cell.Answered verdict.Sat) false ∷ []) 0 [] false) ≡ Some (board_of (none (cell.Answered verdict.Sat) true ∷ []) 0 [] false)
cancels = refl

pub cancels-twice : after (Cancel 0) (board_of (none cell.Posted true ∷ []) 0 [] false) ≡ None
cancels-twice = refl

pub cancels-mine : after (Cancel 0) (board_of (none cell.Mine false ∷ []) 0 [] false) ≡ None
cancels-mine = refl

pub cancels-nothing : after (Cancel 1) (board_of (none cell.Posted false ∷ []) 0 [] false) ≡ None
cancels-nothing = refl

pub takes : after (Take 0) (board_of (none cell.Posted false ∷ []) 0 [] false) ≡ Some (board_of (none cell.Mine false ∷ []) 0 [] false)
takes = refl

pub takes-running : after (Take 0) (board_of (none (cell.Running 1) false ∷ []) 1 (Some 0 ∷ []) false) ≡ None
takes-running = refl

pub takes-marked : after (Take 0) (board_of (none cell.Posted true ∷ []) 0 [] false) ≡ None
takes-marked = refl

pub stops : after Stop (board_of [] 0 [] false) ≡ Some (board_of [] 0 [] true)
stops = refl

pub stops-twice : after Stop (board_of [] 0 [] true) ≡ None
stops-twice = refl

-- a worker leaves a stopped board, unless it runs its entry
pub leaves : after (Leave 1) (board_of (one (cell.Running 2) false ∷ []) 2 (Some 1 ∷ Some 0 ∷ []) true) ≡ Some (board_of (one (cell.Running 2) false ∷ []) 2 (None ∷ Some 0 ∷ []) true)
leaves = refl

pub leaves-running : after (Leave 2) (board_of (one (cell.Running 2) false ∷ []) 2 (Some 1 ∷ Some 0 ∷ []) true) ≡ None
leaves-running = refl

pub leaves-early : after (Leave 1) (board_of [] 1 (Some 0 ∷ []) false) ≡ None
leaves-early = refl

pub leaves-without : after (Leave 1) (board_of [] 0 (None ∷ []) true) ≡ None
leaves-without = refl

-- a new round has the same workers and the same size
pub rounds : after Round (board_of (one cell.GivenUp false ∷ []) 2 (None ∷ None ∷ []) true) ≡ Some (board_of [] 0 (None ∷ None ∷ []) false)
rounds = refl

pub rounds-early : after Round (board_of [] 0 (None ∷ []) false) ≡ None
rounds-early = refl

pub rounds-ticket : after Round (board_of [] 1 (None ∷ Some 0 ∷ []) true) ≡ None
rounds-ticket = refl
