-- Seats that come and leave, on the board.
use Rattle.std.proofs.Common.{◌≡◌, ℕ, ◌-◌, true, false, List, [], ◌∷◌, ◌++◌, length, get_or, set, sym, refl, ap, ◌∙◌, subst, arith, eqb}
use Rattle.std.specs.Prelude.{slice_get, Some, None}
use mathlib.Core.Logic.{dite}
use mathlib.Core.Option.{some}
use native.Mathlib.Decide.{dec_le}
use lib.ListN.{get_elem?}
use Rattle.atomic_table.proofs.Lists.{set_else, set_here, at_longer}
use Rattle.req_keys.specs.declared.verdict.Cell.{Cell}
use Rattle.req_keys.specs.declared.verdict.Cell.TheVariants.{Empty, Posted, Running, Mine, GivenUp, Answered}
use Rattle.clauses.specs.Problem.{ClauseProblem}
use Rattle.board.specs.declared.state.Board.{Board}
use Rattle.board.specs.Board.{tickets_of, is_run_by}
use Rattle.board.specs.Events.{leave}
use Rattle.check_table.specs.Places.{stop_code}
use Rattle.check_table.specs.Views.{after_seat, newcomer, after_leave}
use Rattle.check_table.specs.Rule.{Rule, TableState, TicketStands, IsBegun}
use Rattle.check_table.specs.Board.{state_word, entry_read, entries_read, known_in, ticket_if, board_of}
use Rattle.check_table.specs.Laws.{HasMain, HasWorker}
use Rattle.check_table.specs.declared.view.KnownEntry.{KnownEntry}
use Rattle.check_table.specs.declared.view.MainView.{MainView}
use Rattle.check_table.specs.declared.view.WorkerView.{WorkerView}
use Rattle.check_table.specs.declared.view.Stage.{Stage}
use Rattle.check_table.specs.declared.view.Stage.TheVariants.{Idle, Holds}
use Rattle.check_table.specs.declared.view.View.{View}
use Rattle.check_table.specs.declared.view.View.TheVariants.{Main, Worker, Spent}
use Rattle.check_table.proofs.Entries.{at_less, less_at}
use Rattle.check_table.proofs.Boards.{known_is, Alone, entries_get, entries_none, tickets_main, tickets_new, tickets_own, tickets_spent, tickets_idle}
use Rattle.check_table.proofs.Happens.{leaves, leaves_nothing}
use Rattle.check_table.proofs.Workers.{not_main}
use Rattle.check_table.proofs.RuleLaws.{main_view, entry_cell}
use Rattle.check_table.proofs.Readings.{alone, low, high, apart, known_now, views_board}

-- who has not begun an entry doesn't run it
pub not_run : (w : ℕ) (c : Cell) → (IsBegun c → ⊥) → is_run_by w c ≡ false
not_run w Empty f = refl
not_run w Posted f = refl
not_run w Mine f = refl
not_run w GivenUp f = refl
not_run w (Answered v) f = refl
not_run w (Running n) f = absurd (f tt)

module _ (p : ClauseProblem) (size : ℕ) (s : TableState) (r : Rule p size s) where
  pub split_is : (m : MainView) → HasMain s m → board_of p size (record { words = s.words; homes = s.homes; views = set s.views 0 (Main (after_seat m)) ++ Worker (newcomer m) ∷ [] }) ≡ board_of p size s
  split_is m has =
      let m' : MainView = after_seat m in let vs : List View = set s.views 0 (Main m') in let views : List View = vs ++ Worker (newcomer m) ∷ [] in
      let here = set_here s.views 0 (Main m') (at_less s.views 0 (Main r.main) r.main_at) in
      let known = known_is views m' (at_longer vs (Worker (newcomer m) ∷ []) 0 (Main m') here) ∙ ap (λ (k : MainView). k.entries) (sym (main_view p size s r m has)) ∙ sym (known_now p size s r) in
      sym (views_board p size s r views (board_of p size s).tickets (λ words. ap (entries_read p words 0) known) (sym (tickets_new vs (newcomer m) refl ∙ tickets_main s.views m m' has)))

  module _ (m : MainView) (id : ℕ) (w : WorkerView) (has : HasMain s m) (there : HasWorker s id w) where
    abbrev vs : List View
    vs = set s.views 0 (Main (after_leave w m))

    there' : get_elem? vs id ≡ some (Worker w)
    there' = set_else s.views 0 id (Main (after_leave w m)) (λ e. apart p size s r id w there (sym e)) ∙ there

    alone' : Alone vs id w.number
    alone' j v a e = alone p size s r id w there j v (sym (set_else s.views 0 j (Main (after_leave w m)) (λ z. no_worker j v a z)) ∙ a) e
      where
        no_worker : (j : ℕ) (v : WorkerView) → get_elem? vs j ≡ some (Worker v) → j ≡ 0 → ⊥
        no_worker j v a z = not_main (after_leave w m) v (sym (set_here s.views 0 (Main (after_leave w m)) (at_less s.views 0 (Main r.main) r.main_at)) ∙ ap (λ (k : ℕ). get_elem? vs k) (sym z) ∙ a)

    known : (words : List ℕ) → entries_read p words 0 (known_in (set vs id Spent)) ≡ entries_read p words 0 (known_in s.views)
    known words = ap (entries_read p words 0)
        (known_is (set vs id Spent) (after_leave w m) (set_else vs id 0 Spent (apart p size s r id w there) ∙ set_here s.views 0 (Main (after_leave w m)) (at_less s.views 0 (Main r.main) r.main_at))
        ∙ ap (λ (k : MainView). k.entries) (sym (main_view p size s r m has)) ∙ sym (known_now p size s r))

    pub join_idle : w.stage ≡ Idle → board_of p size (record { words = s.words; homes = s.homes; views = set vs id Spent }) ≡ board_of p size s
    join_idle idle = sym (views_board p size s r (set vs id Spent) (board_of p size s).tickets known
        (sym (tickets_idle vs id w there' alone' (low p size s r id w there) (high p size s r id w there) (ap ticket_if idle) ∙ tickets_main s.views m (after_leave w m) has)))

    pub join_holding : (t : ℕ) → w.stage ≡ Holds t → w.saw_stop ≡ true → leave w.number (board_of p size s) ≡ Some (board_of p size (record { words = s.words; homes = s.homes; views = set vs id Spent }))
    join_holding t holds saw =
        let b : Board = board_of p size s in
        let ticket : tickets_of w.number b.tickets ≡ Some (Some t) = tickets_own s.views id w there (alone p size s r id w there) (low p size s r id w there) (high p size s r id w there) ∙ ap (λ (g : Stage). Some (ticket_if g)) holds in
        let stopped : b.stopped ≡ true = ap (λ (k : ℕ). eqb k 1) (r.stop.word ∙ ap stop_code (r.stop.stop id w there saw)) in
        let held = subst (λ (g : Stage). TicketStands r.cells r.owner (get_or s.words 0 0) id g) holds (r.tickets.tickets id w there) in
        leaves_so b t ticket stopped held.2 ∙ ap Some after
      where
        after : record (board_of p size s) { tickets = set (board_of p size s).tickets (w.number - 1) None } ≡ board_of p size (record { words = s.words; homes = s.homes; views = set vs id Spent })
        after = views_board p size s r (set vs id Spent) (set (board_of p size s).tickets (w.number - 1) None) known
            (sym (tickets_spent vs id w there' alone' (low p size s r id w there) (high p size s r id w there) ∙ ap (λ l. set l (w.number - 1) None) (tickets_main s.views m (after_leave w m) has)))

        leaves_so : (b : Board) (t : ℕ) → tickets_of w.number (board_of p size s).tickets ≡ Some (Some t) → (board_of p size s).stopped ≡ true → (IsBegun (r.cells t) → ⊥)
            → leave w.number (board_of p size s) ≡ Some (record (board_of p size s) { tickets = set (board_of p size s).tickets (w.number - 1) None })
        leaves_so b t ticket stopped begun = dite (dec_le (length r.main.entries) t)
            (λ past. leaves_nothing (board_of p size s) w.number t ticket stopped (ap (λ (l : List KnownEntry). slice_get (entries_read p s.words 0 l) t) (known_now p size s r) ∙ entries_none p s.words 0 r.main.entries t past))
            (λ less. let found = less_at r.main.entries t (omega arith) in
            leaves (board_of p size s) w.number t ticket (entry_read (state_word p s.words t) found.0)
            (ap (λ (l : List KnownEntry). slice_get (entries_read p s.words 0 l) t) (known_now p size s r) ∙ entries_get p s.words 0 r.main.entries t t found.0 (omega arith) found.1)
            stopped (ap (is_run_by w.number) (entry_cell p size s r m t found.0 has (ap (λ (k : MainView). get_elem? k.entries t) (sym (main_view p size s r m has)) ∙ found.1)) ∙ not_run w.number (r.cells t) begun))
