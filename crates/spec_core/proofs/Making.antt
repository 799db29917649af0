-- A world's event, made on its parts.
use Rattle.std.proofs.Common.{◌≡◌, ◌∙◌, refl, sym, ap, subst, ℕ, Bool, true, false, Option, Some, None, Result, Ok, Err}
use Rattle.std.specs.Prelude.{IfOk, IfSome, OnErr, OnOk, is_some, option_and_then, option_map, slice_get, unwrap_or}
use Rattle.std.specs.declared.alloc.AllocError.{AllocError}
use Rattle.clauses.specs.Problem.{ClauseProblem}
use Rattle.req_keys.specs.Key.{PositionSet}
use Rattle.req_keys.specs.declared.verdict.Verdict.{Verdict}
use Rattle.req_keys.specs.declared.verdict.Cell.{Cell}
use Rattle.req_keys.specs.declared.verdict.Cell.TheVariants as cell
use Rattle.board.specs.declared.state.Entry.{Entry}
use Rattle.board.specs.declared.state.Board.{Board}
use Rattle.board.specs.Events as events
use Rattle.script.specs.Running.{Running}
use Rattle.script.specs.Sequential.{verdicts_of}
use Rattle.spec_core.specs.declared.event.Event.{Event}
use Rattle.spec_core.specs.declared.event.Event.TheVariants as event
use Rattle.spec_core.specs.World.{HoldsVerdict, World, WorldOn, asks_in, on_board, told_where, use_at, use_cell, with_told, world_after}
use Rattle.spec_core.specs.World as worlds
use Rattle.spec_core.specs.inside.Fitting.{IsFit, world_of}
use Rattle.spec_core.specs.inside.Making.{AreOver, IsMade}
use Rattle.spec_core.proofs.Boards.{held-answer, held-cancel, held-claim, held-draw, held-give_up, held-leave, held-post, held-round, held-stop, held-take}

-- events keep it that the keys are over as many positions as the plan has requirements
module _ (verdict : PositionSet → Verdict) (n : ℕ) where
  abbrev IsOver : PositionSet → Cell → Type 0
  IsOver key c = key.n ≡ n

  stays : (key : PositionSet) (before now : Cell) → HoldsVerdict verdict key now → IsOver key before → IsOver key now
  stays key before now is over = over

  abbrev Fits : World → Type 0
  Fits world = (world.plan.requirements ≡ n) × AreOver n world.board

  fits-board : (world : World) (change : Board → Option Board) → Fits world → IfSome (change world.board) (AreOver n) → IfSome (on_board change world) Fits
  fits-board world change fits over = by (change world.board) over
    where
      by : (o : Option Board) → IfSome o (AreOver n) → IfSome (option_map (λ after. record world { board = after }) o) Fits
      by None held = tt
      by (Some after) held = (fits.0, held)

  fits-told : (b : Bool) (key : PositionSet) (v : Verdict) (world : World) → Fits world → IfSome (told_where b key v world) Fits
  fits-told true key v world fits = fits
  fits-told false key v world fits = tt

  fits-cell : (c : Cell) (b : Bool) (key : PositionSet) (world : World) → Fits world → IfSome (use_cell c b key world) Fits
  fits-cell (cell.Answered v) b key world fits = fits-told b key v world fits
  fits-cell cell.Empty b key world fits = tt
  fits-cell cell.Posted b key world fits = tt
  fits-cell (cell.Running w) b key world fits = tt
  fits-cell cell.Mine b key world fits = tt
  fits-cell cell.GivenUp b key world fits = tt

  fits-at : (o : Option Entry) (key : PositionSet) (world : World) → Fits world → IfSome (use_at o key world) Fits
  fits-at None key world fits = tt
  fits-at (Some entry) key world fits = fits-cell entry.cell _ key world fits

  fits-use : (number : ℕ) (world : World) → Fits world → IfSome (worlds.use_entry number world) Fits
  fits-use number world fits = by (asks_in world)
    where
      by : (o : Option PositionSet) → IfSome (option_and_then (λ key. use_at (slice_get world.board.entries number) key world) o) Fits
      by None = tt
      by (Some key) = fits-at (slice_get world.board.entries number) key world fits

  fits-solve : (world : World) → Fits world → IfSome (worlds.solve verdict world) Fits
  fits-solve world fits = by (asks_in world)
    where
      by : (o : Option PositionSet) → IfSome (option_map (λ key. with_told key (verdict key) world) o) Fits
      by None = tt
      by (Some key) = fits

  fits-post : (key : PositionSet) (world : World) → Fits world → IfSome (worlds.post key world) Fits
  fits-post key world fits = by (asks_in world)
    where
      by : (o : Option PositionSet) → IfSome (option_and_then (λ asked. on_board (events.post world.plan.requirements key) world) o) Fits
      by None = tt
      by (Some asked) = fits-board world (events.post world.plan.requirements key) fits (held-post verdict IsOver stays world.plan.requirements key world.board (λ e. e ∙ fits.0) fits.1)

  fits-after : (e : Event) (world : World) → Fits world → IfSome (world_after verdict e world) Fits
  fits-after (event.Post key) world fits = fits-post key world fits
  fits-after (event.Draw worker) world fits = fits-board world (events.draw worker) fits (held-draw verdict IsOver stays worker world.board fits.1)
  fits-after (event.Claim worker) world fits = fits-board world (events.claim worker) fits (held-claim verdict IsOver stays worker world.board fits.1)
  fits-after (event.Answer worker) world fits = fits-board world (events.answer verdict worker) fits (held-answer verdict IsOver stays worker world.board fits.1)
  fits-after (event.GiveUp worker) world fits = fits-board world (events.give_up worker) fits (held-give_up verdict IsOver stays worker world.board fits.1)
  fits-after (event.Cancel number) world fits = fits-board world (events.cancel number) fits (held-cancel verdict IsOver stays number world.board fits.1)
  fits-after (event.Take number) world fits = fits-board world (events.take number) fits (held-take verdict IsOver stays number world.board fits.1)
  fits-after (event.Use number) world fits = fits-use number world fits
  fits-after event.Solve world fits = fits-solve world fits
  fits-after event.Stop world fits = fits-board world events.stop fits (held-stop verdict IsOver stays world.board fits.1)
  fits-after (event.Leave worker) world fits = fits-board world (events.leave worker) fits (held-leave verdict IsOver stays worker world.board fits.1)
  fits-after event.Round world fits = fits-board world events.new_round fits (held-round verdict IsOver stays world.board)

  fits-made : (e : Event) (world now : World) (b : Bool) → Fits world → IsMade (world_after verdict e world) world b now → Fits now
  fits-made e world now b fits is = subst Fits (sym is.state) (by (world_after verdict e world) (fits-after e world fits))
    where
      by : (o : Option World) → IfSome o Fits → Fits (unwrap_or o world)
      by None none = fits
      by (Some after) there = there

-- the parts of a world fit together after an event
pub fit-made : (problem : ClauseProblem) (verdict : PositionSet → Verdict) (e : Event) (run run' : Running) (board board' : Board) (b : Bool) → IsFit run board problem
    → IsMade (world_after verdict e (world_of run board)) (world_of run board) b (world_of run' board') → IsFit run' board' problem
fit-made problem verdict e run run' board board' b fit is =
    let both : Fits verdict run.plan.requirements (world_of run' board') = fits-made verdict run.plan.requirements e (world_of run board) (world_of run' board') b (refl, fit.over) is in
    record {
      positions = both.0 ∙ fit.positions;
      over = let P : ℕ → Type 0 = λ n. AreOver n board' in subst P (sym both.0) both.1;
    }

-- a step of a world, from what was made of its parts
abbrev on_of : ClauseProblem → World → WorldOn
on_of problem world = record { problem = problem; world = world }

passed : (after : Option World) (before : World) → false ≡ is_some after → unwrap_or after before ≡ before
passed None before none = refl
passed (Some world) before none = absurd (cc)

module _ (e : Event) (run run' : Running) (board board' : Board) (problem problem' : ClauseProblem) (same : problem' ≡ problem) (on : WorldOn) (view : on_of problem (world_of run board) ≡ on) where
  abbrev Made : Bool → Type 0
  Made b = IsMade (world_after (verdicts_of problem) e (world_of run board)) (world_of run board) b (world_of run' board')

  pub step-enabled : (result : Result Bool AllocError) → IfOk result Made → IfOk result (λ b. b ≡ is_some (world_after (verdicts_of on.problem) e on.world))
  step-enabled (Ok b) is = let P : WorldOn → Type 0 = λ o. b ≡ is_some (world_after (verdicts_of o.problem) e o.world) in subst P view is.enabled
  step-enabled (Err x) is = tt

  pub step-after : (result : Result Bool AllocError) → IfOk result Made → OnOk result (on_of problem' (world_of run' board') ≡ on_of on.problem (worlds.step (verdicts_of on.problem) on.world e))
  step-after (Ok b) is =
      let P : WorldOn → Type 0 = λ o. on_of problem' (world_of run' board') ≡ on_of o.problem (worlds.step (verdicts_of o.problem) o.world e) in
      subst P view
      (ap (λ (p : ClauseProblem). on_of p (world_of run' board')) same
      ∙ ap (λ (w : World). on_of problem w) is.state)
  step-after (Err x) is = tt

  pub step-passed_over : (result : Result Bool AllocError) → IfOk result Made → result ≡ Ok false → on_of problem' (world_of run' board') ≡ on
  step-passed_over result is e' =
      let P : Result Bool AllocError → Type 0 = λ r. IfOk r Made in
      let none : Made false = subst P e' is in
      ap (λ (p : ClauseProblem). on_of p (world_of run' board')) same
      ∙ ap (λ (w : World). on_of problem w) (none.state ∙ passed (world_after (verdicts_of problem) e (world_of run board)) (world_of run board) none.enabled)
      ∙ view

  pub step-err : (result : Result Bool AllocError) → OnErr result (run' ≡ run) → OnErr result (board' ≡ board) → OnErr result (on_of problem' (world_of run' board') ≡ on)
  step-err (Ok b) runs boards = tt
  step-err (Err x) runs boards =
      ap (λ (p : ClauseProblem). on_of p (world_of run' board')) same
      ∙ ap (λ (r : Running). on_of problem (world_of r board')) runs
      ∙ ap (λ (b : Board). on_of problem (world_of run b)) boards
      ∙ view

  pub step-fit : (result : Result Bool AllocError) → IfOk result Made → OnErr result (run' ≡ run) → OnErr result (board' ≡ board) → IsFit run board problem → IsFit run' board' problem'
  step-fit (Ok b) is runs boards fit = subst (IsFit run' board') (sym same) (fit-made problem (verdicts_of problem) e run run' board board' b fit is)
  step-fit (Err x) is runs boards fit =
      let OfRun : Running → Type 0 = λ r. IsFit r board' problem' in
      let OfBoard : Board → Type 0 = λ b. IsFit run b problem' in
      subst OfRun (sym runs) (subst OfBoard (sym boards) (subst (IsFit run board) (sym same) fit))
