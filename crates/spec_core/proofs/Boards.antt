-- An event on the board keeps what holds of each entry's key and cell, where that holds of a cell once it holds of the one before:
-- that an answered cell holds its key's verdict, or something that the key alone decides.
use Rattle.std.proofs.Common.{◌≡◌, refl, ℕ, Bool, true, false, cond, not, ◌&&◌, List, [], ◌∷◌, ◌++◌, length, get_or, Option, Some, None, subst}
use Rattle.std.specs.Prelude.{All, IfSome, slice_get, nat_lt, ◌==◌}
use Rattle.std.proofs.lemmas.List.Elements.{All-get_or, All-nil, All-push, All-set}
use Rattle.std.proofs.lemmas.Bool.{eqb-true}
use Rattle.std.proofs.lemmas.Option.{get_or_from_slice_get, slice_get_within}
use Rattle.req_keys.specs.Key.{PositionSet}
use Rattle.req_keys.specs.declared.verdict.Verdict.{Verdict}
use Rattle.req_keys.specs.declared.verdict.Cell.{Cell}
use Rattle.req_keys.specs.declared.verdict.Cell.TheVariants as cell
use Rattle.board.specs.declared.state.Entry.{Entry}
use Rattle.board.specs.declared.state.Board.{Board}
use Rattle.board.specs.Board.{is_mine, is_posted, is_run_by, some_ticket, tickets_of, with_cell, with_ticket}
use Rattle.board.specs.Events.{answer, cancel, cancel_at, claim, claim_at, claim_by, draw, draw_by, finish_at, finish_by, give_up, leave, leave_at, leave_by, new_round, post, stop, take, take_at, when}
use Rattle.spec_core.specs.World.{HoldsVerdict}

last_of : (a b : Bool) → (a && b) ≡ true → b ≡ true
last_of true b e = e
last_of false b e = absurd (cc)

module _ (verdict : PositionSet → Verdict) (Holds : PositionSet → Cell → Type 0) (goes_on : (key : PositionSet) (before now : Cell) → HoldsVerdict verdict key now → Holds key before → Holds key now) where
  abbrev IsHeld : Entry → Type 0
  IsHeld entry = Holds entry.key entry.cell

  abbrev pub AreHeld : Board → Type 0
  AreHeld board = All IsHeld board.entries

  held-when : (b : Bool) (board : Board) → AreHeld board → IfSome (when b board) AreHeld
  held-when true board held = held
  held-when false board held = tt

  held-at : (entries : List Entry) (number : ℕ) (entry : Entry) → slice_get entries number ≡ Some entry → All IsHeld entries → IsHeld entry
  held-at entries number entry at held =
      let there : IsHeld (get_or entries number entry) = All-get_or IsHeld entries number entry (slice_get_within entries number entry at) held in
      subst IsHeld (get_or_from_slice_get entries number entry entry at) there

  held-where : (b : Bool) (board : Board) → (b ≡ true → AreHeld board) → IfSome (when b board) AreHeld
  held-where true board held = held refl
  held-where false board held = tt

  held-cell : (board : Board) (number : ℕ) (entry : Entry) (now : Cell) → AreHeld board → slice_get board.entries number ≡ Some entry → HoldsVerdict verdict entry.key now → AreHeld (with_cell number entry now board)
  held-cell board number entry now held at is = All-set IsHeld board.entries number (record entry { cell = now }) (goes_on entry.key entry.cell now is (held-at board.entries number entry at held)) held

  pub held-post : (n : ℕ) (key : PositionSet) (board : Board) → (key.n ≡ n → Holds key cell.Posted) → AreHeld board → IfSome (post n key board) AreHeld
  held-post n key board new held =
      held-where (not board.stopped && nat_lt (length board.entries) board.size && key.n == n)
      (record board { entries = board.entries ++ record { key = key; cell = cell.Posted; cancelled = false } ∷ [] })
      (λ e. All-push IsHeld board.entries (record { key = key; cell = cell.Posted; cancelled = false }) held (new (eqb-true key.n n (last_of (not board.stopped && nat_lt (length board.entries) board.size) (key.n == n) e))))

  pub held-draw : (worker : ℕ) (board : Board) → AreHeld board → IfSome (draw worker board) AreHeld
  held-draw worker board held = by (tickets_of worker board.tickets)
    where
      by : (o : Option (Option ℕ)) → IfSome (draw_by o worker board) AreHeld
      by None = tt
      by (Some None) = held-when (not board.stopped && nat_lt board.cursor board.size) _ held
      by (Some (Some ticket)) = tt

  held-if : (b : Bool) (x y : Board) → AreHeld x → AreHeld y → AreHeld (cond b x y)
  held-if true x y p q = p
  held-if false x y p q = q

  held-claim_at : (o : Option Entry) (worker ticket : ℕ) (board : Board) → slice_get board.entries ticket ≡ o → AreHeld board → IfSome (claim_at o worker ticket board) AreHeld
  held-claim_at None worker ticket board at held = held
  held-claim_at (Some entry) worker ticket board at held =
      held-when (not (is_run_by worker entry.cell)) _
      (held-if (is_posted entry.cell && not entry.cancelled) (with_cell ticket entry (cell.Running worker) board) (with_ticket worker None board) (held-cell board ticket entry (cell.Running worker) held at tt) held)

  pub held-claim : (worker : ℕ) (board : Board) → AreHeld board → IfSome (claim worker board) AreHeld
  held-claim worker board held = by (tickets_of worker board.tickets)
    where
      by : (o : Option (Option ℕ)) → IfSome (claim_by o worker board) AreHeld
      by None = tt
      by (Some None) = tt
      by (Some (Some ticket)) = held-claim_at (slice_get board.entries ticket) worker ticket board refl held

  held-finish_at : (o : Option Entry) (says : PositionSet → Cell) (worker ticket : ℕ) (board : Board) → slice_get board.entries ticket ≡ o → ((key : PositionSet) → HoldsVerdict verdict key (says key)) → AreHeld board → IfSome (finish_at o says worker ticket board) AreHeld
  held-finish_at None says worker ticket board at is held = tt
  held-finish_at (Some entry) says worker ticket board at is held =
      held-when (is_run_by worker entry.cell) _
      (held-if entry.cancelled board (with_cell ticket entry (says entry.key) board) held (held-cell board ticket entry (says entry.key) held at (is entry.key)))

  held-finish : (says : PositionSet → Cell) (worker : ℕ) (board : Board) → ((key : PositionSet) → HoldsVerdict verdict key (says key)) → AreHeld board → IfSome (finish_by (tickets_of worker board.tickets) says worker board) AreHeld
  held-finish says worker board is held = by (tickets_of worker board.tickets)
    where
      by : (o : Option (Option ℕ)) → IfSome (finish_by o says worker board) AreHeld
      by None = tt
      by (Some None) = tt
      by (Some (Some ticket)) = held-finish_at (slice_get board.entries ticket) says worker ticket board refl is held

  pub held-answer : (worker : ℕ) (board : Board) → AreHeld board → IfSome (answer verdict worker board) AreHeld
  held-answer worker board held = held-finish (λ key. cell.Answered (verdict key)) worker board (λ key. refl) held

  pub held-give_up : (worker : ℕ) (board : Board) → AreHeld board → IfSome (give_up worker board) AreHeld
  held-give_up worker board held = held-finish (λ key. cell.GivenUp) worker board (λ key. tt) held

  pub held-cancel : (number : ℕ) (board : Board) → AreHeld board → IfSome (cancel number board) AreHeld
  held-cancel number board held = by (slice_get board.entries number) refl
    where
      by : (o : Option Entry) → slice_get board.entries number ≡ o → IfSome (cancel_at o number board) AreHeld
      by None at = tt
      by (Some entry) at =
          held-when (not entry.cancelled && not (is_mine entry.cell)) _
          (All-set IsHeld board.entries number (record entry { cancelled = true }) (held-at board.entries number entry at held) held)

  pub held-take : (number : ℕ) (board : Board) → AreHeld board → IfSome (take number board) AreHeld
  held-take number board held = by (slice_get board.entries number) refl
    where
      by : (o : Option Entry) → slice_get board.entries number ≡ o → IfSome (take_at o number board) AreHeld
      by None at = tt
      by (Some entry) at = held-when (is_posted entry.cell && not entry.cancelled) _ (held-cell board number entry cell.Mine held at tt)

  pub held-stop : (board : Board) → AreHeld board → IfSome (stop board) AreHeld
  held-stop board held = held-when (not board.stopped) _ held

  held-leave_at : (o : Option Entry) (worker : ℕ) (board : Board) → AreHeld board → IfSome (leave_at o worker board) AreHeld
  held-leave_at None worker board held = held-when board.stopped _ held
  held-leave_at (Some entry) worker board held = held-when (board.stopped && not (is_run_by worker entry.cell)) _ held

  pub held-leave : (worker : ℕ) (board : Board) → AreHeld board → IfSome (leave worker board) AreHeld
  held-leave worker board held = by (tickets_of worker board.tickets)
    where
      by : (o : Option (Option ℕ)) → IfSome (leave_by o worker board) AreHeld
      by None = tt
      by (Some None) = tt
      by (Some (Some ticket)) = held-leave_at (slice_get board.entries ticket) worker board held

  pub held-round : (board : Board) → IfSome (new_round board) AreHeld
  held-round board = held-when (board.stopped && not (some_ticket board.tickets)) _ (All-nil IsHeld)

  pub held-entry : (board : Board) (number : ℕ) (entry : Entry) → slice_get board.entries number ≡ Some entry → AreHeld board → Holds entry.key entry.cell
  held-entry board number entry at held = held-at board.entries number entry at held
