-- What the calls on a board do.
use Rattle.std.specs.Prelude.{◌≡◌, ℕ, Bool, true, false, All, Option, Some, None, is_some, unwrap_or, if◌then◌else◌}
use Rattle.req_keys.specs.Key.{PositionSet}
use Rattle.req_keys.specs.Order.{key_eq}
use Rattle.req_keys.specs.declared.verdict.Verdict.{Verdict}
use Rattle.req_keys.specs.declared.verdict.Cell.{Cell}
use Rattle.req_keys.specs.declared.verdict.Cell.TheVariants as cell
use Rattle.board.specs.declared.state.Entry.{Entry}
use Rattle.board.specs.declared.state.Board.{Board}
use Rattle.board.specs.Events as events
use Rattle.spec_core.specs.declared.event.Event.{Event}
use Rattle.spec_core.specs.declared.event.Event.TheVariants as event

-- an event was made where it is enabled, and passed over where it isn't
pub record IsMade {A : Type 0} (after : Option A) (before : A) (made : Bool) (now : A) : Type 0 where
  pub enabled : made ≡ is_some after
  pub state : now ≡ unwrap_or after before

-- what an event does that is on the board alone, and neither posts nor answers
abbrev pub change_of : Event → Board → Option Board
change_of (event.Draw worker) board = events.draw worker board
change_of (event.Claim worker) board = events.claim worker board
change_of (event.GiveUp worker) board = events.give_up worker board
change_of (event.Cancel number) board = events.cancel number board
change_of (event.Take number) board = events.take number board
change_of event.Stop board = events.stop board
change_of (event.Leave worker) board = events.leave worker board
change_of event.Round board = events.new_round board
change_of other board = None

-- the answer of an entry that may be used where the key is asked
abbrev pub answer_in : Cell → Bool → Option Verdict
answer_in (cell.Answered verdict) true = Some verdict
answer_in (cell.Answered verdict) false = None
answer_in other fits = None

abbrev pub usable_at : Option Entry → PositionSet → Option Verdict
usable_at None key = None
usable_at (Some entry) key = answer_in entry.cell (if entry.cancelled then false else key_eq entry.key key)

-- each entry has a key over n positions
abbrev pub AreOver : ℕ → Board → Type 0
AreOver n board = All (λ entry. entry.key.n ≡ n) board.entries
