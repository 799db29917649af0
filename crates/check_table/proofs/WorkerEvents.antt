-- The steps of a worker, on the board.
use Rattle.std.proofs.Common.{◌≡◌, ◌≢◌, ℕ, ◌+◌, ◌-◌, ◌<◌, ◌≤◌, min, Bool, cond, true, false, not, ◌&&◌, List, length, get_or, set, sym, refl, ap, ◌∙◌, subst, arith, eqb, ltb, lt-ltb, ltb-true, ne_eqb, get_or-set_same, get_or-set_other}
use Rattle.std.specs.Prelude.{slice_get, Option, Some, None}
use mathlib.Core.Logic.{dite}
use mathlib.Core.Option.{some}
use native.Mathlib.Decide.{dec_le}
use lib.ListN.{get_elem?}
use Rattle.req_keys.specs.Key.{PositionSet}
use Rattle.req_keys.specs.declared.verdict.Verdict.{Verdict}
use Rattle.req_keys.specs.declared.verdict.Cell.{Cell}
use Rattle.req_keys.specs.declared.verdict.Cell.TheVariants.{Empty, Posted, Running, Mine, GivenUp, Answered}
use Rattle.clauses.specs.Problem.{ClauseProblem}
use Rattle.board.specs.declared.state.Board.{Board}
use Rattle.board.specs.Board.{tickets_of, is_posted, is_run_by}
use Rattle.board.specs.Events.{Draw, draw, claim, answer, give_up, finish_by}
use Rattle.check_table.specs.Places.{key_width, slot, code, cell_of, has_mark, IsVerdictOf}
use Rattle.check_table.specs.Views.{after_draw, after_claim, after_read, after_answer, after_stop_look, after_mark_look, stage_claimed, stage_read}
use Rattle.check_table.specs.Rule.{Rule, TableState, TicketStands, IsBegun, marked}
use Rattle.check_table.specs.Board.{state_word, entry_read, entries_read, known_in, ticket_if, ticket_by_number, board_of}
use Rattle.check_table.specs.Laws.{HasMain, HasWorker, AreVerdicts, IsEventUnlessStopped, worker_steps, exchanged}
use Rattle.check_table.specs.declared.view.KnownEntry.{KnownEntry}
use Rattle.check_table.specs.declared.view.MainView.{MainView}
use Rattle.check_table.specs.declared.view.WorkerView.{WorkerView}
use Rattle.check_table.specs.declared.view.Stage.{Stage}
use Rattle.check_table.specs.declared.view.Stage.TheVariants.{Idle, Holds, Runs}
use Rattle.check_table.specs.declared.view.View.TheVariants.{Worker}
use Rattle.check_table.proofs.Slots.{slot_past}
use Rattle.check_table.proofs.Codes.{cell_of_code, mark_of_code}
use Rattle.check_table.proofs.Entries.{less_at, marked_past}
use Rattle.check_table.proofs.Boards.{same_board, listed, entries_get, entries_none, tickets_own, tickets_set, tickets_kept}
use Rattle.check_table.proofs.Happens.{draws, claims_nothing, claims_posted, claims_gone, finishes, finishes_late}
use Rattle.check_table.proofs.RuleLaws.{state_code}
use Rattle.check_table.proofs.Readings.{exchanged_hit, exchanged_miss, one_verdict, alone, low, high, known_now, known_after, kept_board, other_entries, state_board}

module _ (p : ClauseProblem) (size : ℕ) (s : TableState) (r : Rule p size s) (id : ℕ) (w : WorkerView) (there : HasWorker s id w) where
  abbrev b : Board
  b = board_of p size s

  known : (w' : WorkerView) (words : List ℕ) → entries_read p words 0 (known_in (set s.views id (Worker w'))) ≡ entries_read p words 0 (known_in s.views)
  known w' words = ap (entries_read p words 0) (known_after p size s r id w (Worker w') there)

  kept : (w' : WorkerView) → w'.number ≡ w.number → ticket_if w'.stage ≡ ticket_if w.stage → b.tickets ≡ listed (ticket_by_number (set s.views id (Worker w')))
  kept w' number same = sym (tickets_kept s.views id w there (alone p size s r id w there) (low p size s r id w there) (high p size s r id w there) w' number same)

  changed : (w' : WorkerView) (x : Option ℕ) → w'.number ≡ w.number → ticket_if w'.stage ≡ x → set b.tickets (w.number - 1) x ≡ listed (ticket_by_number (set s.views id (Worker w')))
  changed w' x number is = sym (tickets_set s.views id w there (alone p size s r id w there) (low p size s r id w there) (high p size s r id w there) w' number ∙ ap (set b.tickets (w.number - 1)) is)

  ticket : (x : Option ℕ) → ticket_if w.stage ≡ x → tickets_of w.number b.tickets ≡ Some x
  ticket x is = tickets_own s.views id w there (alone p size s r id w there) (low p size s r id w there) (high p size s r id w there) ∙ ap Some is

  entry_at : (t : ℕ) (e : KnownEntry) → get_elem? r.main.entries t ≡ some e → slice_get b.entries t ≡ Some (entry_read (state_word p s.words t) e)
  entry_at t e at = ap (λ (l : List KnownEntry). slice_get (entries_read p s.words 0 l) t) (known_now p size s r) ∙ entries_get p s.words 0 r.main.entries t t e (omega arith) at

  entry_none : (t : ℕ) → length r.main.entries ≤ t → slice_get b.entries t ≡ None
  entry_none t past = ap (λ (l : List KnownEntry). slice_get (entries_read p s.words 0 l) t) (known_now p size s r) ∙ entries_none p s.words 0 r.main.entries t past

  -- looks and reads
  looks_nothing : (i : ℕ) (w' : WorkerView) → w'.number ≡ w.number → ticket_if w'.stage ≡ ticket_if w.stage → board_of p size (worker_steps s i (get_or s.words i 0) id w') ≡ b
  looks_nothing i w' number same = sym (kept_board p size s r i (get_or s.words i 0) (set s.views id (Worker w')) b.tickets refl (known w') (kept w' number same))

  read_ticket : (j n : ℕ) (g : Stage) → ticket_if (stage_read j n g) ≡ ticket_if g
  read_ticket j n Idle = refl
  read_ticket j n (Holds t) = refl
  read_ticket j n (Runs t read) = refl

  pub look_is : (i place j n : ℕ) → let x : ℕ = get_or s.words i 0 in
      (board_of p size (worker_steps s i x id (after_stop_look place n w)) ≡ b)
      × (board_of p size (worker_steps s i x id (after_mark_look place n w)) ≡ b)
      × (board_of p size (worker_steps s i x id (after_read j place n w)) ≡ b)
  look_is i place j n = (
    looks_nothing i (after_stop_look place n w) refl refl,
    looks_nothing i (after_mark_look place n w) refl refl,
    looks_nothing i (after_read j place n w) refl (read_ticket j n w.stage),
  )

  -- draws
  not_cursor : (t : ℕ) → slot (key_width p) t 0 ≢ 0
  not_cursor t e = let past = slot_past (key_width p) t 0 in omega arith

  abbrev n : ℕ
  n = get_or s.words 0 0

  abbrev drawn : Board
  drawn = board_of p size (worker_steps s 0 (n + 1) id (after_draw 0 n w))

  drawn_entries : drawn.entries ≡ b.entries
  drawn_entries = known (after_draw 0 n w) (set s.words 0 (n + 1)) ∙ other_entries p size s r 0 (n + 1) not_cursor (known_in s.views)

  drawn_word : get_or (set s.words 0 (n + 1)) 0 0 ≡ n + 1
  drawn_word = let long = r.keys.sized in get_or-set_same s.words 0 (n + 1) 0 (omega arith)

  drawn_stop : drawn.stopped ≡ b.stopped
  drawn_stop = ap (λ (k : ℕ). eqb k 1) (get_or-set_other s.words 0 1 (n + 1) 0 (omega arith))

  sized : w.size ≡ size
  sized = (r.problem.workers id w there).1

  draw_from : (stopped : Bool) → stopped ≡ false → w.stage ≡ Idle → n < size → draw w.number (record b { stopped = stopped }) ≡ Some (record drawn { stopped = stopped })
  draw_from stopped running idle room =
      let here : min n size ≡ n = omega arith in
      let below : n < w.size = subst (λ (k : ℕ). n < k) (sym sized) room in
      let held : ticket_if (after_draw 0 n w).stage ≡ Some (min n size) = ap (λ (q : Bool). ticket_if (cond q (Holds n) w.stage)) (lt-ltb n w.size below) ∙ ap Some (sym here) in
      draws (record b { stopped = stopped }) w.number (ticket None (ap ticket_if idle)) running (omega arith)
      ∙ ap Some (same_board _ _ (sym drawn_entries) (let moved : min (n + 1) size ≡ min n size + 1 = omega arith in sym (ap (λ (k : ℕ). min k size) drawn_word ∙ moved))
      (changed (after_draw 0 n w) (Some (min n size)) refl held) refl refl)

  pub draw_is : w.stage ≡ Idle → n < size → IsEventUnlessStopped p (Draw w.number) b drawn
  draw_is idle room = record {
    running = λ running verdict are. draw_from b.stopped running idle room ∙ ap (λ (q : Bool). Some (record drawn { stopped = q })) (sym drawn_stop);
    stopped = λ verdict are. draw_from false refl idle room;
    same = drawn_stop;
  }

  pub no_draw_is : w.stage ≡ Idle → size ≤ n → drawn ≡ b
  no_draw_is idle past =
      let over : ltb n w.size ≡ false = over_is (ltb n w.size) refl in
      same_board _ _ drawn_entries (let moved : min (n + 1) size ≡ min n size = omega arith in ap (λ (k : ℕ). min k size) drawn_word ∙ moved)
      (sym (kept (after_draw 0 n w) refl (ap (λ (q : Bool). ticket_if (cond q (Holds n) w.stage)) over))) drawn_stop refl
    where
      over_is : (q : Bool) → ltb n w.size ≡ q → ltb n w.size ≡ false
      over_is false is = is
      over_is true is = let less = ltb-true n w.size is in let same = sized in absurd (omega arith)

  -- claims
  abbrev run : ℕ
  run = code (Running w.number) false

  abbrev claimed_board : ℕ → ℕ → ℕ → Board
  claimed_board t place x = board_of p size (worker_steps s (slot (key_width p) t 0) (exchanged 1 run x) id (after_claim place x w))

  claim_nothing : (t place x : ℕ) → w.stage ≡ Holds t → state_word p s.words t ≡ x → x ≡ 0 → length r.main.entries ≤ t → claim w.number b ≡ Some (claimed_board t place x)
  claim_nothing t place x holds met zero past = claims_nothing b w.number t (ticket (Some t) (ap ticket_if holds)) (entry_none t past)
      ∙ ap Some (kept_board p size s r (slot (key_width p) t 0) (exchanged 1 run x) (set s.views id (Worker (after_claim place x w))) b.tickets
      (met ∙ sym (exchanged_miss 1 run x (λ e. omega arith))) (known (after_claim place x w))
      (kept (after_claim place x w) refl (ap (λ (k : ℕ). ticket_if (stage_claimed (eqb k 1) (eqb k 0) w.stage)) zero ∙ ap (λ (g : Stage). ticket_if (stage_claimed false true g)) holds ∙ sym (ap ticket_if holds))))

  claim_posted : (t place x : ℕ) (e : KnownEntry) → w.stage ≡ Holds t → t < size → get_elem? r.main.entries t ≡ some e → state_word p s.words t ≡ x → x ≡ 1 → claim w.number b ≡ Some (claimed_board t place x)
  claim_posted t place x e holds within at met one =
      claims_posted b w.number t (ticket (Some t) (ap ticket_if holds)) (entry_read (state_word p s.words t) e) (entry_at t e at) (ap cell_of (met ∙ one)) (ap has_mark (met ∙ one))
      ∙ ap Some (state_board p size s r t (exchanged 1 run x) within e (record (entry_read (state_word p s.words t) e) { cell = Running w.number }) (set s.views id (Worker (after_claim place x w))) b.tickets at
      (let new : exchanged 1 run x ≡ run = exchanged_hit 1 run x one in
      λ i. record { key = e.key; cell = (ap cell_of new ∙ cell_of_code (Running w.number) false) i; cancelled = (ap has_mark new ∙ mark_of_code (Running w.number) false ∙ sym (ap has_mark (met ∙ one))) i })
      (known (after_claim place x w))
      (kept (after_claim place x w) refl (ap (λ (k : ℕ). ticket_if (stage_claimed (eqb k 1) (eqb k 0) w.stage)) one ∙ ap (λ (g : Stage). ticket_if (stage_claimed true false g)) holds ∙ sym (ap ticket_if holds))))

  claim_gone : (t place x : ℕ) (e : KnownEntry) (c : Cell) (m : Bool) → w.stage ≡ Holds t → get_elem? r.main.entries t ≡ some e → state_word p s.words t ≡ x → x ≡ code c m
      → x ≢ 1 → x ≢ 0 → is_run_by w.number c ≡ false → (is_posted c && not m) ≡ false → claim w.number b ≡ Some (claimed_board t place x)
  claim_gone t place x e c m holds at met is one zero run_by gone =
      claims_gone b w.number t (ticket (Some t) (ap ticket_if holds)) (entry_read (state_word p s.words t) e) (entry_at t e at) c (ap cell_of (met ∙ is) ∙ cell_of_code c m) run_by
      (ap (λ (q : Bool). is_posted c && not q) (ap has_mark (met ∙ is) ∙ mark_of_code c m) ∙ gone)
      ∙ ap Some (kept_board p size s r (slot (key_width p) t 0) (exchanged 1 run x) (set s.views id (Worker (after_claim place x w))) (set b.tickets (w.number - 1) None)
      (met ∙ sym (exchanged_miss 1 run x one)) (known (after_claim place x w))
      (changed (after_claim place x w) None refl
      ((λ i. ticket_if (stage_claimed (ne_eqb x 1 one i) (ne_eqb x 0 zero i) w.stage)) ∙ ap (λ (g : Stage). ticket_if (stage_claimed false false g)) holds)))

  pub claim_is : (t place : ℕ) → w.stage ≡ Holds t → t < size → claim w.number b ≡ Some (claimed_board t place (state_word p s.words t))
  claim_is t place holds within =
      let x : ℕ = state_word p s.words t in
      let held = subst (λ (g : Stage). TicketStands r.cells r.owner (get_or s.words 0 0) id g) holds (r.tickets.tickets id w there) in
      dite (dec_le (length r.main.entries) t)
      (λ past. claim_nothing t place x holds refl (state_code p size s r t within ∙ (λ i. code (r.keys.past t past i) (marked_past r.main.entries t past i))) past)
      (λ less. let found = less_at r.main.entries t (omega arith) in
      by_cell found.0 found.1 (r.cells t) (marked r.main.entries t) (state_code p size s r t within) held.2 (r.keys.there t found.0 found.1))
    where
      by_cell : (e : KnownEntry) → get_elem? r.main.entries t ≡ some e → (c : Cell) (m : Bool) → state_word p s.words t ≡ code c m → (IsBegun c → ⊥) → c ≢ Empty → claim w.number b ≡ Some (claimed_board t place (state_word p s.words t))
      by_cell e at Empty m is begun full = absurd (full refl)
      by_cell e at Posted false is begun full = claim_posted t place (state_word p s.words t) e holds within at refl is
      by_cell e at Posted true is begun full = claim_gone t place (state_word p s.words t) e Posted true holds at refl is (λ z. omega arith) (λ z. omega arith) refl refl
      by_cell e at Mine false is begun full = claim_gone t place (state_word p s.words t) e Mine false holds at refl is (λ z. omega arith) (λ z. omega arith) refl refl
      by_cell e at Mine true is begun full = claim_gone t place (state_word p s.words t) e Mine true holds at refl is (λ z. omega arith) (λ z. omega arith) refl refl
      by_cell e at (Running k) m is begun full = absurd (begun tt)
      by_cell e at GivenUp m is begun full = absurd (begun tt)
      by_cell e at (Answered v) m is begun full = absurd (begun tt)

  -- answers and giving up
  abbrev ended_board : ℕ → ℕ → ℕ → ℕ → Board
  ended_board t new place x = board_of p size (worker_steps s (slot (key_width p) t 0) (exchanged run new x) id (after_answer place x w))

  module _ (t place : ℕ) (read : List (ℕ × ℕ)) (runs : w.stage ≡ Runs t read) (within : t < size) (e : KnownEntry) (at : get_elem? r.main.entries t ≡ some e) where
    running : r.cells t ≡ Running w.number
    running = r.states.running id w there t read runs

    met : (m : Bool) → marked r.main.entries t ≡ m → state_word p s.words t ≡ code (Running w.number) m
    met m is = state_code p size s r t within ∙ (λ i. code (running i) (is i))

    here : tickets_of w.number b.tickets ≡ Some (Some t)
    here = ticket (Some t) (ap ticket_if runs)

    pub ends : (ans : PositionSet → Cell) (c : Cell) → ans e.key ≡ c → (m : Bool) → marked r.main.entries t ≡ m
        → finish_by (tickets_of w.number b.tickets) ans w.number b ≡ Some (ended_board t (code c false) place (state_word p s.words t))
    ends ans c is false bare = let x : ℕ = state_word p s.words t in let is_run : x ≡ run = met false bare in
        finishes b w.number t here (entry_read x e) (entry_at t e at) ans (ap cell_of is_run ∙ cell_of_code (Running w.number) false) (ap has_mark is_run ∙ mark_of_code (Running w.number) false)
        ∙ ap Some (state_board p size s r t (exchanged run (code c false) x) within e (record (entry_read x e) { cell = ans e.key }) (set s.views id (Worker (after_answer place x w))) (set b.tickets (w.number - 1) None) at
        (let new : exchanged run (code c false) x ≡ code c false = exchanged_hit run (code c false) x is_run in
        λ i. record { key = e.key; cell = (ap cell_of new ∙ cell_of_code c false ∙ sym is) i; cancelled = (ap has_mark new ∙ mark_of_code c false ∙ sym (ap has_mark is_run ∙ mark_of_code (Running w.number) false)) i })
        (known (after_answer place x w)) (changed (after_answer place x w) None refl refl))
    ends ans c is true bare = let x : ℕ = state_word p s.words t in let is_run : x ≡ code (Running w.number) true = met true bare in
        finishes_late b w.number t here (entry_read x e) (entry_at t e at) ans (ap cell_of is_run ∙ cell_of_code (Running w.number) true) (ap has_mark is_run ∙ mark_of_code (Running w.number) true)
        ∙ ap Some (kept_board p size s r (slot (key_width p) t 0) (exchanged run (code c false) x) (set s.views id (Worker (after_answer place x w))) (set b.tickets (w.number - 1) None)
        (sym (exchanged_miss run (code c false) x (λ z. omega arith))) (known (after_answer place x w)) (changed (after_answer place x w) None refl refl))

  module _ (t place : ℕ) (read : List (ℕ × ℕ)) (runs : w.stage ≡ Runs t read) (within : t < size) where
    pub answer_is : (v : Verdict) → ((m : MainView) (e : KnownEntry) → HasMain s m → get_elem? m.entries t ≡ some e → IsVerdictOf p e.key v)
        → (verdict : PositionSet → Verdict) → AreVerdicts p verdict → answer verdict w.number b ≡ Some (ended_board t (code (Answered v) false) place (state_word p s.words t))
    answer_is v right verdict are = let f = r.reads id w there t read runs in
        ends t place read runs within f.entry f.at (λ key. Answered (verdict key)) (Answered v)
        (ap Answered (one_verdict p f.entry.key (verdict f.entry.key) v (are f.entry.key) (right r.main f.entry r.main_at f.at))) (marked r.main.entries t) refl

    pub give_up_is : give_up w.number b ≡ Some (ended_board t (code GivenUp false) place (state_word p s.words t))
    give_up_is = let f = r.reads id w there t read runs in
        ends t place read runs within f.entry f.at (λ key. GivenUp) GivenUp refl (marked r.main.entries t) refl
