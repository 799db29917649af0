-- A world: a plan, the told pairs, and the board; what each event does to it; and what holds of each world that events lead to.
-- Own to this project.
use Rattle.std.specs.Prelude.{◌≡◌, ℕ, Bool, true, false, ◌++◌, List, [], ◌∷◌, All, fold, option_map, option_and_then, slice_get, unwrap_or, if◌then◌else◌, Option, Some, None}
use Rattle.clauses.specs.Problem.{ClauseProblem}
use Rattle.req_keys.specs.Key.{PositionSet}
use Rattle.req_keys.specs.Order.{key_eq}
use Rattle.req_keys.specs.declared.verdict.Verdict.{Verdict}
use Rattle.req_keys.specs.declared.verdict.Cell.{Cell}
use Rattle.req_keys.specs.declared.verdict.Cell.TheVariants as cell
use Rattle.board.specs.declared.state.Entry.{Entry}
use Rattle.board.specs.declared.state.Board.{Board}
use Rattle.board.specs.Board.{fresh_board}
use Rattle.board.specs.Events as board
use Rattle.script.specs.declared.job.JobPlan.{JobPlan}
use Rattle.script.specs.declared.job.Outcome.{Outcome}
use Rattle.script.specs.Job.{Told, want}
use Rattle.script.specs.Running.{key_in}
use Rattle.script.specs.Sequential.{IsSoFar, outcome_of}
use Rattle.spec_core.specs.declared.event.Event.{Event}
use Rattle.spec_core.specs.declared.event.Event.TheVariants as event

pub record World : Type 0 where
  pub plan : JobPlan
  pub told : Told
  pub board : Board

-- a world on a problem, which is what contracts see of the struct `World`
pub record WorldOn : Type 0 where
  pub problem : ClauseProblem
  pub world : World

-- nothing is told, and nothing stands on the board
abbrev pub new_world : JobPlan → ℕ → ℕ → World
new_world plan workers entries = record { plan = plan; told = []; board = fresh_board workers entries }

-- the key that the job asks, unless it is done
abbrev pub asks_in : World → Option PositionSet
asks_in world = key_in (want world.plan world.told)

-- how the job ended, where it is done
abbrev pub ends_as : World → Option Outcome
ends_as world = outcome_of (want world.plan world.told)

-- the job is told the verdict of the key
abbrev pub with_told : PositionSet → Verdict → World → World
with_told key verdict world = record world { told = world.told ++ (key, verdict) ∷ [] }

-- an event on the board alone
abbrev pub on_board : (Board → Option Board) → World → Option World
on_board change world = option_map (λ after. record world { board = after }) (change world.board)

-- a key is posted while the job isn't done
abbrev pub post : PositionSet → World → Option World
post key world = option_and_then (λ asked. on_board (board.post world.plan.requirements key) world) (asks_in world)

-- the job asks the key of an entry that is answered and hasn't the mark: it is told that answer
abbrev pub told_where : Bool → PositionSet → Verdict → World → Option World
told_where true key verdict world = Some (with_told key verdict world)
told_where false key verdict world = None

abbrev pub use_cell : Cell → Bool → PositionSet → World → Option World
use_cell (cell.Answered verdict) fits key world = told_where fits key verdict world
use_cell other fits key world = None

abbrev pub use_at : Option Entry → PositionSet → World → Option World
use_at None key world = None
use_at (Some entry) key world = use_cell entry.cell (if entry.cancelled then false else key_eq entry.key key) key world

abbrev pub use_entry : ℕ → World → Option World
use_entry number world = option_and_then (λ key. use_at (slice_get world.board.entries number) key world) (asks_in world)

-- the main thread finds out the verdict of the asked key by itself
abbrev pub solve : (PositionSet → Verdict) → World → Option World
solve verdict world = option_map (λ key. with_told key (verdict key) world) (asks_in world)

-- the world after an event, or nothing where the event isn't enabled
abbrev pub world_after : (PositionSet → Verdict) → Event → World → Option World
world_after verdict (event.Post key) world = post key world
world_after verdict (event.Draw worker) world = on_board (board.draw worker) world
world_after verdict (event.Claim worker) world = on_board (board.claim worker) world
world_after verdict (event.Answer worker) world = on_board (board.answer verdict worker) world
world_after verdict (event.GiveUp worker) world = on_board (board.give_up worker) world
world_after verdict (event.Cancel number) world = on_board (board.cancel number) world
world_after verdict (event.Take number) world = on_board (board.take number) world
world_after verdict (event.Use number) world = use_entry number world
world_after verdict event.Solve world = solve verdict world
world_after verdict event.Stop world = on_board board.stop world
world_after verdict (event.Leave worker) world = on_board (board.leave worker) world
world_after verdict event.Round world = on_board board.new_round world

-- events that aren't enabled are passed over
abbrev pub step : (PositionSet → Verdict) → World → Event → World
step verdict world event = unwrap_or (world_after verdict event world) world

-- the world after all events, in order
abbrev pub world_over : (PositionSet → Verdict) → List Event → World → World
world_over verdict events world = fold (step verdict) world events

-- an answered cell holds its key's verdict
abbrev pub HoldsVerdict : (PositionSet → Verdict) → PositionSet → Cell → Type 0
HoldsVerdict verdict key (cell.Answered answer) = answer ≡ verdict key
HoldsVerdict verdict key other = Unit {0}

-- what holds of each world that events lead to: the job was told verdicts only, each of the key that it asked, and each answered
-- cell holds its key's verdict
pub record IsAlong (verdict : PositionSet → Verdict) (world : World) : Type 0 where
  pub told : IsSoFar world.plan verdict world.told
  pub answered : All (λ entry. HoldsVerdict verdict entry.key entry.cell) world.board.entries
