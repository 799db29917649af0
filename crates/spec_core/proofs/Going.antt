-- A worker with a ticket goes from a stopped board, and leaves the others as they are.
use Rattle.std.proofs.Common.{◌≡◌, ◌≢◌, ◌∙◌, ◌⊎◌, inl, inr, refl, sym, ap, ℕ, suc, zero, ◌-◌, Bool, true, false, not, cond, ◌&&◌, List, [], ◌∷◌, length, replicate, Option, Some, None, arith}
use Rattle.std.specs.Prelude.{slice_get, slice_set}
use Rattle.std.proofs.lemmas.Bool.{eqb-true}
use Rattle.std.proofs.lemmas.Bool.Decides.{eqb_tells}
use Rattle.std.proofs.lemmas.Option.{none-some}
use Rattle.std.proofs.lemmas.List.{length-set}
use Rattle.std.proofs.Math.Dec.{eqb}
use Rattle.req_keys.specs.declared.verdict.Cell.{Cell}
use Rattle.req_keys.specs.declared.verdict.Cell.TheVariants as cell
use Rattle.board.specs.declared.state.Entry.{Entry}
use Rattle.board.specs.declared.state.Board.{Board}
use Rattle.board.specs.Board.{fresh_board, is_run_by, some_ticket, tickets_of, with_cell, with_ticket}
use Rattle.board.specs.Events.{finish_at, finish_by, leave_at, leave_by, new_round, when}
use Rattle.spec_core.specs.declared.event.Event.TheVariants as event
use Rattle.spec_core.specs.Rounds.{HasTicket, goes, goes_by, run_at}
use Rattle.spec_core.specs.inside.Making.{change_of}

pub get-set_other : {X : Type 0} (xs : List X) (i j : ℕ) (y : X) → j ≢ i → slice_get (slice_set xs i y) j ≡ slice_get xs j
get-set_other [] i j y other = refl
get-set_other (x ∷ xs) zero zero y other = absurd (other refl)
get-set_other (x ∷ xs) zero (suc j) y other = refl
get-set_other (x ∷ xs) (suc i) zero y other = refl
get-set_other (x ∷ xs) (suc i) (suc j) y other = get-set_other xs i j y (λ e. other (ap suc e))

pub get-set_same : {X : Type 0} (xs : List X) (i : ℕ) (x y : X) → slice_get xs i ≡ Some x → slice_get (slice_set xs i y) i ≡ Some y
get-set_same [] i x y at = absurd (none-some x at)
get-set_same (z ∷ xs) zero x y at = refl
get-set_same (z ∷ xs) (suc i) x y at = get-set_same xs i x y at

-- the board after the worker, whose ticket this is, has gone
abbrev pub gone : Bool → Option Entry → ℕ → ℕ → Board → Board
gone true (Some entry) worker ticket board = with_ticket worker None (cond entry.cancelled board (with_cell ticket entry cell.GivenUp board))
gone true None worker ticket board = with_ticket worker None board
gone false o worker ticket board = with_ticket worker None board

module _ (board : Board) (worker ticket : ℕ) (stopped : board.stopped ≡ true) (has : tickets_of worker board.tickets ≡ Some (Some ticket)) where
  pub going : (r : Bool) (o : Option Entry) → slice_get board.entries ticket ≡ o → run_at o worker ≡ r → change_of (cond r (event.GiveUp worker) (event.Leave worker)) board ≡ Some (gone r o worker ticket board)
  going true None at run = absurd (cc)
  going true (Some entry) at run =
      ap (λ (t : Option (Option ℕ)). finish_by t (λ key. cell.GivenUp) worker board) has
      ∙ ap (λ (o : Option Entry). finish_at o (λ key. cell.GivenUp) worker ticket board) at
      ∙ ap (λ (b : Bool). when b (with_ticket worker None (cond entry.cancelled board (with_cell ticket entry cell.GivenUp board)))) run
  going false None at run =
      ap (λ (t : Option (Option ℕ)). leave_by t worker board) has
      ∙ ap (λ (o : Option Entry). leave_at o worker board) at
      ∙ ap (λ (b : Bool). when b (with_ticket worker None board)) stopped
  going false (Some entry) at run =
      ap (λ (t : Option (Option ℕ)). leave_by t worker board) has
      ∙ ap (λ (o : Option Entry). leave_at o worker board) at
      ∙ ap (λ (b : Bool). when (b && not (is_run_by worker entry.cell)) (with_ticket worker None board)) stopped
      ∙ ap (λ (b : Bool). when (true && not b) (with_ticket worker None board)) run

-- what stays of the board, and what changes
pub gone-tickets : (r : Bool) (o : Option Entry) (worker ticket : ℕ) (board : Board) → (gone r o worker ticket board).tickets ≡ slice_set board.tickets (worker - 1) None
gone-tickets true (Some entry) worker ticket board = by entry.cancelled
  where
    by : (b : Bool) → (with_ticket worker None (cond b board (with_cell ticket entry cell.GivenUp board))).tickets ≡ slice_set board.tickets (worker - 1) None
    by true = refl
    by false = refl
gone-tickets true None worker ticket board = refl
gone-tickets false o worker ticket board = refl

pub gone-stopped : (r : Bool) (o : Option Entry) (worker ticket : ℕ) (board : Board) → (gone r o worker ticket board).stopped ≡ board.stopped
gone-stopped true (Some entry) worker ticket board = by entry.cancelled
  where
    by : (b : Bool) → (with_ticket worker None (cond b board (with_cell ticket entry cell.GivenUp board))).stopped ≡ board.stopped
    by true = refl
    by false = refl
gone-stopped true None worker ticket board = refl
gone-stopped false o worker ticket board = refl

pub gone-size : (r : Bool) (o : Option Entry) (worker ticket : ℕ) (board : Board) → (gone r o worker ticket board).size ≡ board.size
gone-size true (Some entry) worker ticket board = by entry.cancelled
  where
    by : (b : Bool) → (with_ticket worker None (cond b board (with_cell ticket entry cell.GivenUp board))).size ≡ board.size
    by true = refl
    by false = refl
gone-size true None worker ticket board = refl
gone-size false o worker ticket board = refl

-- nobody else runs the entry
run_by_one : (c : Cell) (worker other : ℕ) → is_run_by worker c ≡ true → other ≢ worker → is_run_by other c ≡ false
run_by_one (cell.Running w) worker other run differs = by (eqb_tells w other)
  where
    by : ((eqb w other ≡ true) × (w ≡ other)) ⊎ ((eqb w other ≡ false) × (w ≢ other)) → eqb w other ≡ false
    by (inl p) = absurd (differs (sym p.1 ∙ eqb-true w worker run))
    by (inr p) = p.0
run_by_one cell.Empty worker other run differs = absurd (cc)
run_by_one cell.Posted worker other run differs = absurd (cc)
run_by_one cell.Mine worker other run differs = absurd (cc)
run_by_one cell.GivenUp worker other run differs = absurd (cc)
run_by_one (cell.Answered v) worker other run differs = absurd (cc)

module _ (worker other : ℕ) (differs : other ≢ worker) (ticket : ℕ) (board : Board) where
  run-set : (entry : Entry) (t : ℕ) → slice_get board.entries ticket ≡ Some entry → is_run_by worker entry.cell ≡ true
      → run_at (slice_get (slice_set board.entries ticket (record entry { cell = cell.GivenUp })) t) other ≡ run_at (slice_get board.entries t) other
  run-set entry t at run = by (eqb_tells t ticket)
    where
      put : Entry
      put = record entry { cell = cell.GivenUp }

      by : ((eqb t ticket ≡ true) × (t ≡ ticket)) ⊎ ((eqb t ticket ≡ false) × (t ≢ ticket)) → run_at (slice_get (slice_set board.entries ticket (record entry { cell = cell.GivenUp })) t) other ≡ run_at (slice_get board.entries t) other
      by (inl p) =
          ap (λ (n : ℕ). run_at (slice_get (slice_set board.entries ticket (record entry { cell = cell.GivenUp })) n) other) p.1
          ∙ ap (λ (o : Option Entry). run_at o other) (get-set_same board.entries ticket entry (record entry { cell = cell.GivenUp }) at)
          ∙ sym (run_by_one entry.cell worker other run differs)
          ∙ sym (ap (λ (o : Option Entry). run_at o other) at)
          ∙ sym (ap (λ (n : ℕ). run_at (slice_get board.entries n) other) p.1)
      by (inr p) = ap (λ (o : Option Entry). run_at o other) (get-set_other board.entries ticket t (record entry { cell = cell.GivenUp }) p.1)

  run-gone : (r : Bool) (o : Option Entry) (t : ℕ) → slice_get board.entries ticket ≡ o → run_at o worker ≡ r
      → run_at (slice_get (gone r o worker ticket board).entries t) other ≡ run_at (slice_get board.entries t) other
  run-gone true (Some entry) t at run = by entry.cancelled
    where
      by : (b : Bool) → run_at (slice_get (with_ticket worker None (cond b board (with_cell ticket entry cell.GivenUp board))).entries t) other ≡ run_at (slice_get board.entries t) other
      by true = refl
      by false = run-set entry t at run
  run-gone true None t at run = refl
  run-gone false o t at run = refl

-- the tickets of the others
pub tickets-other : (tickets : List (Option ℕ)) (worker other ticket : ℕ) → tickets_of worker tickets ≡ Some (Some ticket) → other ≢ worker
    → tickets_of other (slice_set tickets (worker - 1) None) ≡ tickets_of other tickets
tickets-other tickets worker zero ticket has differs = refl
tickets-other tickets zero (suc u) ticket has differs = absurd (none-some (Some ticket) has)
tickets-other tickets (suc w) (suc u) ticket has differs =
    let one : suc w - 1 ≡ w = omega arith in
    ap (λ (i : ℕ). slice_get (slice_set tickets i None) u) one
    ∙ get-set_other tickets w u None (λ e. differs (ap suc e))

pub tickets-same : (tickets : List (Option ℕ)) (worker ticket : ℕ) → tickets_of worker tickets ≡ Some (Some ticket)
    → tickets_of worker (slice_set tickets (worker - 1) None) ≡ Some None
tickets-same tickets zero ticket has = absurd (none-some (Some ticket) has)
tickets-same tickets (suc w) ticket has =
    let one : suc w - 1 ≡ w = omega arith in
    ap (λ (i : ℕ). slice_get (slice_set tickets i None) w) one
    ∙ get-set_same tickets w (Some ticket) None has

-- how the others go from the board
goes-by : (t : Option (Option ℕ)) (one other : List Entry) (worker : ℕ) → ((n : ℕ) → run_at (slice_get one n) worker ≡ run_at (slice_get other n) worker)
    → goes_by t one worker ≡ goes_by t other worker
goes-by None one other worker same = refl
goes-by (Some None) one other worker same = refl
goes-by (Some (Some n)) one other worker same = ap (λ (b : Bool). cond b (event.GiveUp worker) (event.Leave worker)) (same n)

-- once nobody has a ticket
pub no_tickets : (tickets : List (Option ℕ)) → ((i ticket : ℕ) → slice_get tickets i ≡ Some (Some ticket) → ⊥) → (tickets ≡ replicate (length tickets) None) × (some_ticket tickets ≡ false)
no_tickets [] none = (refl, refl)
no_tickets (Some ticket ∷ tickets) none = absurd (none 0 ticket refl)
no_tickets (None ∷ tickets) none =
    let rest = no_tickets tickets (λ i ticket e. none (suc i) ticket e) in
    (ap (λ (ts : List (Option ℕ)). None ∷ ts) rest.0, rest.1)

pub round-is : (board : Board) → board.stopped ≡ true → ((worker : ℕ) → HasTicket board worker → ⊥) → new_round board ≡ Some (fresh_board (length board.tickets) board.size)
round-is board stopped none =
    let no = no_tickets board.tickets (λ i ticket e. none (suc i) (ticket, e)) in
    let fresh : List (Option ℕ) → Board = λ ts. record { entries = []; cursor = 0; tickets = ts; stopped = false; size = board.size } in
    ap (λ (b : Bool). when (b && not (some_ticket board.tickets)) (fresh board.tickets)) stopped
    ∙ ap (λ (b : Bool). when (true && not b) (fresh board.tickets)) no.1
    ∙ ap (λ (ts : List (Option ℕ)). Some (fresh ts)) no.0

some_none : (ticket : ℕ) → Some (Some ticket) ≡ Some None → ⊥
some_none ticket e = cc

-- a worker with a ticket goes from a stopped board
pub record Gone (before : Board) (worker : ℕ) (after : Board) : Type 0 where
  pub made : change_of (goes before worker) before ≡ Some after
  pub stopped : after.stopped ≡ true
  pub size : after.size ≡ before.size
  pub tickets : length after.tickets ≡ length before.tickets
  pub itself : HasTicket after worker → ⊥
  pub others : (other : ℕ) → other ≢ worker → tickets_of other after.tickets ≡ tickets_of other before.tickets
  pub goes_same : (other : ℕ) → other ≢ worker → goes after other ≡ goes before other

pub one_goes : (board : Board) (worker : ℕ) → board.stopped ≡ true → HasTicket board worker → (after : Board) × Gone board worker after
one_goes board worker stopped has =
    let ticket : ℕ = has.0 in
    let o : Option Entry = slice_get board.entries ticket in
    let r : Bool = run_at o worker in
    let after : Board = gone r o worker ticket board in
    let tickets : after.tickets ≡ slice_set board.tickets (worker - 1) None = gone-tickets r o worker ticket board in
    let made : change_of (goes board worker) board ≡ Some after =
    ap (λ (t : Option (Option ℕ)). change_of (goes_by t board.entries worker) board) has.1 ∙ going board worker ticket stopped has.1 r o refl refl in
    let others : (other : ℕ) → other ≢ worker → tickets_of other after.tickets ≡ tickets_of other board.tickets =
    λ other differs. ap (tickets_of other) tickets ∙ tickets-other board.tickets worker other ticket has.1 differs in (
      after,
      record {
        made = made;
        stopped = gone-stopped r o worker ticket board ∙ stopped;
        size = gone-size r o worker ticket board;
        tickets = ap length tickets ∙ length-set board.tickets (worker - 1) None;
        itself = λ again. some_none again.0 (sym again.1 ∙ ap (tickets_of worker) tickets ∙ tickets-same board.tickets worker ticket has.1);
        others = others;
        goes_same = λ other differs.
            ap (λ (t : Option (Option ℕ)). goes_by t after.entries other) (others other differs)
            ∙ goes-by (tickets_of other board.tickets) after.entries board.entries other (λ n. run-gone worker other differs ticket board r o n refl refl);
      },
    )
