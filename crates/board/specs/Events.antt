-- The events on a board: each answers the board after it, or nothing where it isn't enabled. Own to this project.
use Rattle.std.specs.Prelude.{ℕ, ◌+◌, Bool, true, false, not, ◌&&◌, ◌++◌, [], ◌∷◌, length, nat_lt, ◌==◌, slice_get, if◌then◌else◌, Option, Some, None}
use Rattle.req_keys.specs.Key.{PositionSet}
use Rattle.req_keys.specs.declared.verdict.Verdict.{Verdict}
use Rattle.req_keys.specs.declared.verdict.Cell.{Cell}
use Rattle.req_keys.specs.declared.verdict.Cell.TheVariants as cell
use Rattle.board.specs.declared.state.Entry.{Entry}
use Rattle.board.specs.declared.state.Board.{Board}
use Rattle.board.specs.Board.{tickets_of, some_ticket, with_ticket, with_entry, with_cell, is_posted, is_mine, is_run_by}

-- the board, where the condition holds
abbrev pub when : Bool → Board → Option Board
when true board = Some board
when false board = None

-- the main thread posts a key, over n positions: the board isn't stopped and has room for one more entry
abbrev pub post : ℕ → PositionSet → Board → Option Board
post n key board = when
    (not board.stopped && nat_lt (length board.entries) board.size && key.n == n)
    (record board { entries = board.entries ++ record { key = key; cell = cell.Posted; cancelled = false } ∷ [] })

-- a worker without a ticket draws the next one: there is one, and the board isn't stopped
abbrev pub draw_by : Option (Option ℕ) → ℕ → Board → Option Board
draw_by (Some None) worker board = when
    (not board.stopped && nat_lt board.cursor board.size)
    (with_ticket worker (Some board.cursor) (record board { cursor = board.cursor + 1 }))
draw_by (Some (Some ticket)) worker board = None
draw_by None worker board = None

abbrev pub draw : ℕ → Board → Option Board
draw worker board = draw_by (tickets_of worker board.tickets) worker board

-- a worker with a ticket that doesn't run its entry tries to. Where nothing is posted there, nothing changes. It runs a
-- posted entry without the mark, and loses the ticket at any other
abbrev pub claim_at : Option Entry → ℕ → ℕ → Board → Option Board
claim_at None worker ticket board = Some board
claim_at (Some entry) worker ticket board = when (not (is_run_by worker entry.cell))
    (if is_posted entry.cell && not entry.cancelled then with_cell ticket entry (cell.Running worker) board else with_ticket worker None board)

abbrev pub claim_by : Option (Option ℕ) → ℕ → Board → Option Board
claim_by (Some (Some ticket)) worker board = claim_at (slice_get board.entries ticket) worker ticket board
claim_by (Some None) worker board = None
claim_by None worker board = None

abbrev pub claim : ℕ → Board → Option Board
claim worker board = claim_by (tickets_of worker board.tickets) worker board

-- a worker ends the run of its entry. The entry holds the answer where it hasn't the mark, and the ticket is lost in any case
abbrev pub finish_at : Option Entry → (PositionSet → Cell) → ℕ → ℕ → Board → Option Board
finish_at None answer worker ticket board = None
finish_at (Some entry) answer worker ticket board = when (is_run_by worker entry.cell)
    (with_ticket worker None (if entry.cancelled then board else with_cell ticket entry (answer entry.key) board))

abbrev pub finish_by : Option (Option ℕ) → (PositionSet → Cell) → ℕ → Board → Option Board
finish_by (Some (Some ticket)) answer worker board = finish_at (slice_get board.entries ticket) answer worker ticket board
finish_by (Some None) answer worker board = None
finish_by None answer worker board = None

-- it answers the verdict of the entry's key
abbrev pub answer : (PositionSet → Verdict) → ℕ → Board → Option Board
answer verdict worker board = finish_by (tickets_of worker board.tickets) (λ key. cell.Answered (verdict key)) worker board

-- it gives up without an answer
abbrev pub give_up : ℕ → Board → Option Board
give_up worker board = finish_by (tickets_of worker board.tickets) (λ key. cell.GivenUp) worker board

-- the main thread sets the mark of an entry that hasn't it, unless it took that entry
abbrev pub cancel_at : Option Entry → ℕ → Board → Option Board
cancel_at None number board = None
cancel_at (Some entry) number board = when (not entry.cancelled && not (is_mine entry.cell))
    (with_entry number (record entry { cancelled = true }) board)

abbrev pub cancel : ℕ → Board → Option Board
cancel number board = cancel_at (slice_get board.entries number) number board

-- the main thread takes a posted entry without the mark, to search by itself
abbrev pub take_at : Option Entry → ℕ → Board → Option Board
take_at None number board = None
take_at (Some entry) number board = when (is_posted entry.cell && not entry.cancelled) (with_cell number entry cell.Mine board)

abbrev pub take : ℕ → Board → Option Board
take number board = take_at (slice_get board.entries number) number board

abbrev pub stop : Board → Option Board
stop board = when (not board.stopped) (record board { stopped = true })

-- a worker that doesn't run its entry leaves a stopped board, with its ticket
abbrev pub leave_at : Option Entry → ℕ → Board → Option Board
leave_at None worker board = when board.stopped (with_ticket worker None board)
leave_at (Some entry) worker board = when (board.stopped && not (is_run_by worker entry.cell)) (with_ticket worker None board)

abbrev pub leave_by : Option (Option ℕ) → ℕ → Board → Option Board
leave_by (Some (Some ticket)) worker board = leave_at (slice_get board.entries ticket) worker board
leave_by (Some None) worker board = None
leave_by None worker board = None

abbrev pub leave : ℕ → Board → Option Board
leave worker board = leave_by (tickets_of worker board.tickets) worker board

-- a new round on a stopped board, once no worker has a ticket
abbrev pub new_round : Board → Option Board
new_round board = when (board.stopped && not (some_ticket board.tickets)) (record board { entries = []; cursor = 0; stopped = false })

-- the events. The numbers of Draw, Claim, Answer, GiveUp and Leave are workers', those of Cancel and Take entries'
pub data BoardEvent : Type 0 where
  Post : PositionSet → BoardEvent
  Draw : ℕ → BoardEvent
  Claim : ℕ → BoardEvent
  Answer : ℕ → BoardEvent
  GiveUp : ℕ → BoardEvent
  Cancel : ℕ → BoardEvent
  Take : ℕ → BoardEvent
  Stop : BoardEvent
  Leave : ℕ → BoardEvent
  Round : BoardEvent

-- the board after an event, over n positions, where keys have these verdicts
abbrev pub board_after : ℕ → (PositionSet → Verdict) → BoardEvent → Board → Option Board
board_after n verdict (Post key) board = post n key board
board_after n verdict (Draw worker) board = draw worker board
board_after n verdict (Claim worker) board = claim worker board
board_after n verdict (Answer worker) board = answer verdict worker board
board_after n verdict (GiveUp worker) board = give_up worker board
board_after n verdict (Cancel number) board = cancel number board
board_after n verdict (Take number) board = take number board
board_after n verdict Stop board = stop board
board_after n verdict (Leave worker) board = leave worker board
board_after n verdict Round board = new_round board
