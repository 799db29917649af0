-- How a round ends: on a stopped board each worker with a ticket goes, and once all have gone a new round begins. Own to this
-- project.
use Rattle.std.specs.Prelude.{◌≡◌, ℕ, Bool, false, List, [], ◌∷◌, All, Contains, Option, Some, None, option_and_then, slice_get, if◌then◌else◌}
use Rattle.lists.specs.Distinct.{IsDistinct}
use Rattle.req_keys.specs.Key.{PositionSet}
use Rattle.req_keys.specs.declared.verdict.Verdict.{Verdict}
use Rattle.board.specs.declared.state.Entry.{Entry}
use Rattle.board.specs.declared.state.Board.{Board}
use Rattle.board.specs.Board.{is_run_by, tickets_of}
use Rattle.spec_core.specs.declared.event.Event.{Event}
use Rattle.spec_core.specs.declared.event.Event.TheVariants as event
use Rattle.spec_core.specs.World.{World, world_after}

abbrev pub HasTicket : Board → ℕ → Type 0
HasTicket board worker = (ticket : ℕ) × (tickets_of worker board.tickets ≡ Some (Some ticket))

-- whether the worker runs this entry
abbrev pub run_at : Option Entry → ℕ → Bool
run_at None worker = false
run_at (Some entry) worker = is_run_by worker entry.cell

-- how a worker with this ticket goes: it gives up the entry that it runs, and leaves where it runs none
abbrev pub goes_by : Option (Option ℕ) → List Entry → ℕ → Event
goes_by (Some (Some ticket)) entries worker = if run_at (slice_get entries ticket) worker then event.GiveUp worker else event.Leave worker
goes_by (Some None) entries worker = event.Leave worker
goes_by None entries worker = event.Leave worker

abbrev pub goes : Board → ℕ → Event
goes board worker = goes_by (tickets_of worker board.tickets) board.entries worker

-- the workers with a ticket, each once, in any order
pub record AreWithTicket (board : Board) (workers : List ℕ) : Type 0 where
  pub once : IsDistinct workers
  pub only : All (HasTicket board) workers
  pub each : (worker : ℕ) → HasTicket board worker → Contains workers worker

-- the world after events, where each is enabled when its turn comes
abbrev pub world_through : (PositionSet → Verdict) → List Event → World → Option World
world_through verdict [] world = Some world
world_through verdict (event ∷ events) world = option_and_then (λ after. world_through verdict events after) (world_after verdict event world)
