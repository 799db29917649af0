-- Events keep a world along the sequential run.
use Rattle.std.proofs.Common.{◌≡◌, ◌∙◌, refl, sym, ap, subst, ℕ, Bool, true, false, cond, List, [], ◌∷◌, ◌++◌, Option, Some, None}
use Rattle.std.specs.Prelude.{IfSome, option_and_then, option_map, slice_get, unwrap_or}
use Rattle.std.proofs.lemmas.List.Elements.{All-nil}
use Rattle.req_keys.specs.Key.{PositionSet}
use Rattle.req_keys.specs.KeyEq.{key_eq-same}
use Rattle.req_keys.specs.Order.{key_eq}
use Rattle.req_keys.specs.declared.verdict.Verdict.{Verdict}
use Rattle.req_keys.specs.declared.verdict.Cell.{Cell}
use Rattle.req_keys.specs.declared.verdict.Cell.TheVariants as cell
use Rattle.board.specs.declared.state.Entry.{Entry}
use Rattle.board.specs.declared.state.Board.{Board}
use Rattle.board.specs.Events as board
use Rattle.script.specs.Job.{Wanted, asks, ends, want}
use Rattle.script.specs.Running.{key_in}
use Rattle.script.specs.Sequential.{IsSoFar, outcome_of}
use Rattle.script.specs.declared.job.JobPlan.{JobPlan}
use Rattle.script.specs.declared.job.Outcome.{Outcome}
use Rattle.script.specs.declared.job.Part.{Part}
use Rattle.script.proofs.SequentialRuns.{so_far-push}
use Rattle.spec_core.specs.declared.event.Event.{Event}
use Rattle.spec_core.specs.declared.event.Event.TheVariants as event
use Rattle.spec_core.specs.World.{HoldsVerdict, IsAlong, World, asks_in, new_world, on_board, step, told_where, use_at, use_cell, with_told, world_after, world_over}
use Rattle.spec_core.proofs.Boards.{AreHeld, held-answer, held-cancel, held-claim, held-draw, held-entry, held-give_up, held-leave, held-post, held-round, held-stop, held-take}

module _ (verdict : PositionSet → Verdict) where
  abbrev Holds : PositionSet → Cell → Type 0
  Holds = HoldsVerdict verdict

  goes_on : (key : PositionSet) (before now : Cell) → HoldsVerdict verdict key now → Holds key before → Holds key now
  goes_on key before now is held = is

  -- along, with the plan as it was
  abbrev Goes : JobPlan → World → Type 0
  Goes plan world = IsAlong verdict world × (world.plan ≡ plan)

  pub along-new : (plan : JobPlan) (workers entries : ℕ) → Goes plan (new_world plan workers entries)
  along-new plan workers entries = (record { told = (0, refl); answered = All-nil (λ (entry : Entry). HoldsVerdict verdict entry.key entry.cell) }, refl)

  goes-board : (plan : JobPlan) (world : World) (change : Board → Option Board) → Goes plan world → IfSome (change world.board) (AreHeld verdict Holds goes_on) → IfSome (on_board change world) (Goes plan)
  goes-board plan world change is held = by (change world.board) held
    where
      by : (o : Option Board) → IfSome o (AreHeld verdict Holds goes_on) → IfSome (option_map (λ after. record world { board = after }) o) (Goes plan)
      by None held = tt
      by (Some after) held = (record { told = is.0.told; answered = held }, is.1)

  asked_part : (w : Wanted) (key : PositionSet) → key_in w ≡ Some key → (part : Part) × (w ≡ asks part key)
  asked_part (asks part other) key e = let same : other ≡ key = cc in (part, ap (asks part) same)
  asked_part (ends outcome) key e = absurd (cc)

  goes-told : (plan : JobPlan) (world : World) (key : PositionSet) (v : Verdict) → Goes plan world → asks_in world ≡ Some key → v ≡ verdict key → Goes plan (with_told key v world)
  goes-told plan world key v is asks_key right =
      let by = asked_part (want world.plan world.told) key asks_key in
      let far : IsSoFar world.plan verdict (world.told ++ (key, verdict key) ∷ []) = so_far-push world.plan verdict world.told by.0 key is.0.told by.1 in
      let P : Verdict → Type 0 = λ x. IsSoFar world.plan verdict (world.told ++ (key, x) ∷ []) in
      (record { told = subst P (sym right) far; answered = is.0.answered }, is.1)

  goes-where : (plan : JobPlan) (world : World) (entry : Entry) (key : PositionSet) (v : Verdict) (b : Bool) → Goes plan world → asks_in world ≡ Some key → v ≡ verdict entry.key → (b ≡ true → entry.key ≡ key) → IfSome (told_where b key v world) (Goes plan)
  goes-where plan world entry key v true is asks_key right same = goes-told plan world key v is asks_key (right ∙ ap verdict (same refl))
  goes-where plan world entry key v false is asks_key right same = tt

  goes-use : (plan : JobPlan) (world : World) (number : ℕ) → Goes plan world → IfSome (world_after verdict (event.Use number) world) (Goes plan)
  goes-use plan world number is = by (asks_in world) refl
    where
      fits : (entry : Entry) (key : PositionSet) (b : Bool) → cond b false (key_eq entry.key key) ≡ true → entry.key ≡ key
      fits entry key true e = absurd (cc)
      fits entry key false e = key_eq-same entry.key key e

      at_cell : (entry : Entry) (key : PositionSet) (c : Cell) → asks_in world ≡ Some key → HoldsVerdict verdict entry.key c → IfSome (use_cell c (cond entry.cancelled false (key_eq entry.key key)) key world) (Goes plan)
      at_cell entry key (cell.Answered v) asks_key right = goes-where plan world entry key v (cond entry.cancelled false (key_eq entry.key key)) is asks_key right (fits entry key entry.cancelled)
      at_cell entry key cell.Empty asks_key right = tt
      at_cell entry key cell.Posted asks_key right = tt
      at_cell entry key (cell.Running w) asks_key right = tt
      at_cell entry key cell.Mine asks_key right = tt
      at_cell entry key cell.GivenUp asks_key right = tt

      at_entry : (key : PositionSet) (o : Option Entry) → asks_in world ≡ Some key → slice_get world.board.entries number ≡ o → IfSome (use_at o key world) (Goes plan)
      at_entry key None asks_key at = tt
      at_entry key (Some entry) asks_key at = at_cell entry key entry.cell asks_key (held-entry verdict Holds goes_on world.board number entry at is.0.answered)

      by : (o : Option PositionSet) → asks_in world ≡ o → IfSome (option_and_then (λ key. use_at (slice_get world.board.entries number) key world) o) (Goes plan)
      by None e = tt
      by (Some key) e = at_entry key (slice_get world.board.entries number) e refl

  goes-solve : (plan : JobPlan) (world : World) → Goes plan world → IfSome (world_after verdict event.Solve world) (Goes plan)
  goes-solve plan world is = by (asks_in world) refl
    where
      by : (o : Option PositionSet) → asks_in world ≡ o → IfSome (option_map (λ key. with_told key (verdict key) world) o) (Goes plan)
      by None e = tt
      by (Some key) e = goes-told plan world key (verdict key) is e refl

  goes-post : (plan : JobPlan) (world : World) (key : PositionSet) → Goes plan world → IfSome (world_after verdict (event.Post key) world) (Goes plan)
  goes-post plan world key is = by (asks_in world)
    where
      by : (o : Option PositionSet) → IfSome (option_and_then (λ asked. on_board (board.post world.plan.requirements key) world) o) (Goes plan)
      by None = tt
      by (Some asked) = goes-board plan world (board.post world.plan.requirements key) is (held-post verdict Holds goes_on world.plan.requirements key world.board (λ e. tt) is.0.answered)

  goes-after : (plan : JobPlan) (world : World) (e : Event) → Goes plan world → IfSome (world_after verdict e world) (Goes plan)
  goes-after plan world (event.Post key) is = goes-post plan world key is
  goes-after plan world (event.Draw worker) is = goes-board plan world (board.draw worker) is (held-draw verdict Holds goes_on worker world.board is.0.answered)
  goes-after plan world (event.Claim worker) is = goes-board plan world (board.claim worker) is (held-claim verdict Holds goes_on worker world.board is.0.answered)
  goes-after plan world (event.Answer worker) is = goes-board plan world (board.answer verdict worker) is (held-answer verdict Holds goes_on worker world.board is.0.answered)
  goes-after plan world (event.GiveUp worker) is = goes-board plan world (board.give_up worker) is (held-give_up verdict Holds goes_on worker world.board is.0.answered)
  goes-after plan world (event.Cancel number) is = goes-board plan world (board.cancel number) is (held-cancel verdict Holds goes_on number world.board is.0.answered)
  goes-after plan world (event.Take number) is = goes-board plan world (board.take number) is (held-take verdict Holds goes_on number world.board is.0.answered)
  goes-after plan world (event.Use number) is = goes-use plan world number is
  goes-after plan world event.Solve is = goes-solve plan world is
  goes-after plan world event.Stop is = goes-board plan world board.stop is (held-stop verdict Holds goes_on world.board is.0.answered)
  goes-after plan world (event.Leave worker) is = goes-board plan world (board.leave worker) is (held-leave verdict Holds goes_on worker world.board is.0.answered)
  goes-after plan world event.Round is = goes-board plan world board.new_round is (held-round verdict Holds goes_on world.board)

  goes-step : (plan : JobPlan) (world : World) (e : Event) → Goes plan world → Goes plan (step verdict world e)
  goes-step plan world e is = by (world_after verdict e world) (goes-after plan world e is)
    where
      by : (o : Option World) → IfSome o (Goes plan) → Goes plan (unwrap_or o world)
      by None none = is
      by (Some after) goes = goes

  pub goes-over : (plan : JobPlan) (events : List Event) (world : World) → Goes plan world → Goes plan (world_over verdict events world)
  goes-over plan [] world is = is
  goes-over plan (e ∷ es) world is = goes-over plan es (step verdict world e) (goes-step plan world e is)

pub ended_by : (w : Wanted) (outcome : Outcome) → outcome_of w ≡ Some outcome → w ≡ ends outcome
ended_by (asks part key) outcome e = absurd (cc)
ended_by (ends other) outcome e = let same : other ≡ outcome = cc in ap ends same
