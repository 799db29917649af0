-- The steps of the main seat, on the board.
use Rattle.std.proofs.Common.{◌≡◌, ◌≢◌, ℕ, ◌+◌, ◌<◌, min, Bool, true, false, true≢false, ◌||◌, List, [], ◌∷◌, ◌++◌, length, bit_or, get_or, set, sym, refl, ap, ◌∙◌, subst, arith, eqb, get_or-set_same, get_or-set_other}
use Rattle.std.specs.Prelude.{slice_get, Some}
use mathlib.Core.Option.{some}
use lib.ListN.{get_elem?}
use Rattle.req_keys.specs.Key.{PositionSet}
use Rattle.req_keys.specs.Words.{words_of, key_of_words}
use Rattle.req_keys.specs.declared.verdict.Cell.{Cell}
use Rattle.req_keys.specs.declared.verdict.Cell.TheVariants.{Empty, Posted, Running, Mine, GivenUp, Answered}
use Rattle.clauses.specs.Problem.{ClauseProblem}
use Rattle.board.specs.declared.state.Board.{Board}
use Rattle.board.specs.Board.{is_mine}
use Rattle.board.specs.Events.{Post, post, cancel, take, stop}
use Rattle.check_table.specs.Places.{key_width, slot, code, cell_of, has_mark, stop_code, IsKeyOf}
use Rattle.check_table.specs.Views.{after_write, after_post, fresh_entry, after_look, after_take, after_cancel, after_stop, answer_met, change_at}
use Rattle.check_table.specs.Found.{IsWanted}
use Rattle.check_table.specs.Rule.{Rule, TableState}
use Rattle.check_table.specs.Board.{state_word, entry_read, entries_read, known_in, ticket_by_number, board_of}
use Rattle.check_table.specs.Laws.{HasMain, IsEventUnlessStopped, main_steps, exchanged}
use Rattle.check_table.specs.declared.view.KnownEntry.{KnownEntry}
use Rattle.check_table.specs.declared.view.MainView.{MainView}
use Rattle.check_table.specs.declared.view.View.TheVariants.{Main}
use Rattle.check_table.proofs.Slots.{same_entry, same_word, slot_past}
use Rattle.check_table.proofs.Codes.{cell_of_code, mark_of_code, marks_code}
use Rattle.check_table.proofs.Keys.{key_shown}
use Rattle.check_table.proofs.Boards.{same_board, listed, entries_get, entries_same, entries_change, entries_end, entries_length, tickets_main}
use Rattle.check_table.proofs.Happens.{posts, cancels, takes, stops}
use Rattle.check_table.proofs.RuleLaws.{main_view, at_main, within, entry_code}
use Rattle.check_table.proofs.Readings.{exchanged_hit, exchanged_miss, known_now, known_main, kept_board, other_entries, state_cursor, state_stop, state_else, state_own, state_board}

not_mine : (c : Cell) → (c ≡ Mine → ⊥) → is_mine c ≡ false
not_mine Empty f = refl
not_mine Posted f = refl
not_mine Mine f = absurd (f refl)
not_mine GivenUp f = refl
not_mine (Answered v) f = refl
not_mine (Running n) f = refl

module _ (p : ClauseProblem) (size : ℕ) (s : TableState) (r : Rule p size s) (m : MainView) (has : HasMain s m) where
  abbrev b : Board
  b = board_of p size s

  known_m : known_in s.views ≡ m.entries
  known_m = known_now p size s r ∙ ap (λ (k : MainView). k.entries) (main_view p size s r m has)

  tickets : (m' : MainView) → b.tickets ≡ listed (ticket_by_number (set s.views 0 (Main m')))
  tickets m' = sym (tickets_main s.views m m' has)

  -- what the main seat knows of an entry changes, but not its key
  known_change : (g : KnownEntry → KnownEntry) → ((e : KnownEntry) → (g e).key ≡ e.key) → (t : ℕ) (m' : MainView) → m'.entries ≡ change_at g t m.entries → (words : List ℕ)
      → entries_read p words 0 (known_in (set s.views 0 (Main m'))) ≡ entries_read p words 0 (known_in s.views)
  known_change g keys t m' is words = ap (entries_read p words 0) (known_main p size s r m' ∙ is) ∙ entries_change p words g keys 0 m.entries t ∙ sym (ap (entries_read p words 0) known_m)

  known_same : (m' : MainView) → m'.entries ≡ m.entries → (words : List ℕ) → entries_read p words 0 (known_in (set s.views 0 (Main m'))) ≡ entries_read p words 0 (known_in s.views)
  known_same m' is words = ap (entries_read p words 0) (known_main p size s r m' ∙ is ∙ sym known_m)

  entry_at : (t : ℕ) (e : KnownEntry) → get_elem? m.entries t ≡ some e → slice_get b.entries t ≡ Some (entry_read (state_word p s.words t) e)
  entry_at t e at = ap (λ (l : List KnownEntry). slice_get (entries_read p s.words 0 l) t) known_m ∙ entries_get p s.words 0 m.entries t t e (omega arith) at

  pub look_is : (i t place n : ℕ) → board_of p size (main_steps s i (get_or s.words i 0) (after_look t place n m)) ≡ b
  look_is i t place n = sym (kept_board p size s r i (get_or s.words i 0) (set s.views 0 (Main (after_look t place n m))) b.tickets refl
      (known_change (λ e. record e { seen = answer_met n e.seen }) (λ e. refl) t (after_look t place n m) refl) (tickets (after_look t place n m)))

  abbrev taking : ℕ → KnownEntry → KnownEntry
  taking x e = record e { seen = answer_met x e.seen; mine = eqb x 1 || e.mine }

  pub take_is : (t place : ℕ) → IsWanted m t → let x : ℕ = state_word p s.words t in x ≡ 1
      → take t b ≡ Some (board_of p size (main_steps s (slot (key_width p) t 0) (exchanged 1 (code Mine false) x) (after_take t place x m)))
  take_is t place f one = let x : ℕ = state_word p s.words t in let m' : MainView = after_take t place x m in
      takes b t (entry_read x f.entry) (entry_at t f.entry f.at) (ap has_mark one) (ap cell_of one)
      ∙ ap Some (state_board p size s r t (exchanged 1 (code Mine false) x) (within p size s r m t f.entry has f.at) f.entry (record (entry_read x f.entry) { cell = Mine }) (set s.views 0 (Main m')) b.tickets
      (at_main p size s r m t f.entry has f.at)
      (let new : exchanged 1 (code Mine false) x ≡ code Mine false = exchanged_hit 1 (code Mine false) x one in
      λ i. record { key = f.entry.key; cell = ap cell_of new i; cancelled = (ap has_mark new ∙ sym (ap has_mark one)) i })
      (known_change (taking x) (λ e. refl) t m' refl) (tickets m'))

  pub no_take_is : (t place : ℕ) → let x : ℕ = state_word p s.words t in x ≢ 1
      → board_of p size (main_steps s (slot (key_width p) t 0) (exchanged 1 (code Mine false) x) (after_take t place x m)) ≡ b
  no_take_is t place miss = let x : ℕ = state_word p s.words t in let m' : MainView = after_take t place x m in
      sym (kept_board p size s r (slot (key_width p) t 0) (exchanged 1 (code Mine false) x) (set s.views 0 (Main m')) b.tickets (sym (exchanged_miss 1 (code Mine false) x miss))
      (known_change (taking x) (λ e. refl) t m' refl) (tickets m'))

  pub cancel_is : (t place : ℕ) → IsWanted m t → let x : ℕ = state_word p s.words t in
      cancel t b ≡ Some (board_of p size (main_steps s (slot (key_width p) t 0) (bit_or x 8) (after_cancel t place x m)))
  cancel_is t place f = let x : ℕ = state_word p s.words t in let m' : MainView = after_cancel t place x m in let c : Cell = r.cells t in
      let is : x ≡ code c false = entry_code p size s r m t f.entry has f.at ∙ ap (code c) f.kept in
      let here = at_main p size s r m t f.entry has f.at in
      cancels b t (entry_read x f.entry) (entry_at t f.entry f.at) (ap has_mark is ∙ mark_of_code c false)
      (ap is_mine (ap cell_of is ∙ cell_of_code c false) ∙ not_mine c (λ z. true≢false (sym ((r.seen.mine t f.entry here).0 z) ∙ f.free)))
      ∙ ap Some (state_board p size s r t (bit_or x 8) (within p size s r m t f.entry has f.at) f.entry (record (entry_read x f.entry) { cancelled = true }) (set s.views 0 (Main m')) b.tickets here
      (let new : bit_or x 8 ≡ code c true = ap (λ (k : ℕ). bit_or k 8) is ∙ marks_code c false in
      λ i. record { key = f.entry.key; cell = (ap cell_of new ∙ cell_of_code c true ∙ sym (ap cell_of is ∙ cell_of_code c false)) i; cancelled = (ap has_mark new ∙ mark_of_code c true) i })
      (known_change (λ e. record e { cancelled = true }) (λ e. refl) t m' refl) (tickets m'))

  -- stops
  stop_word : get_or s.words 1 0 ≡ stop_code m.stopped
  stop_word = r.stop.word ∙ ap (λ (k : MainView). stop_code k.stopped) (main_view p size s r m has)

  pub stop_is : m.stopped ≡ false → stop b ≡ Some (board_of p size (main_steps s 1 1 (after_stop m)))
  stop_is running = stops b (ap (λ (k : ℕ). eqb k 1) (stop_word ∙ ap stop_code running))
      ∙ ap Some (same_board _ _
      (sym (known_same (after_stop m) refl (set s.words 1 1) ∙ other_entries p size s r 1 1 (λ t e. let past = slot_past (key_width p) t 0 in omega arith) (known_in s.views)))
      (sym (ap (λ (k : ℕ). min k size) (get_or-set_other s.words 1 0 1 0 (omega arith))))
      (tickets (after_stop m))
      (sym (ap (λ (k : ℕ). eqb k 1) (let long = r.keys.sized in get_or-set_same s.words 1 1 0 (omega arith)))) refl)

  pub stop_again_is : m.stopped ≡ true → board_of p size (main_steps s 1 1 (after_stop m)) ≡ b
  stop_again_is stopped = sym (kept_board p size s r 1 1 (set s.views 0 (Main (after_stop m))) b.tickets (stop_word ∙ ap stop_code stopped) (known_same (after_stop m) refl) (tickets (after_stop m)))

  -- writes
  pub write_is : (x : ℕ) → length m.written < key_width p → length m.entries < size
      → board_of p size (main_steps s (slot (key_width p) (length m.entries) (1 + length m.written)) x (after_write x m)) ≡ b
  write_is x small few = let w : ℕ = key_width p in let len : ℕ = length m.entries in let j : ℕ = length m.written in let i : ℕ = slot w len (1 + j) in let past = slot_past w len (1 + j) in
      same_board _ _
      (known_same (after_write x m) refl (set s.words i x) ∙ other_entries p size s r i x (λ t e. other t e) (known_in s.views))
      (ap (λ (k : ℕ). min k size) (get_or-set_other s.words i 0 x 0 (omega arith)))
      (sym (tickets (after_write x m)))
      (ap (λ (k : ℕ). eqb k 1) (get_or-set_other s.words i 1 x 0 (omega arith))) refl
    where
      other : (t : ℕ) → slot (key_width p) t 0 ≡ slot (key_width p) (length m.entries) (1 + length m.written) → ⊥
      other t e = let w : ℕ = key_width p in let same = same_entry w t (length m.entries) 0 (1 + length m.written) (omega arith) (omega arith) e in
          let no_zero : 0 ≡ 1 + length m.written = same_word w (length m.entries) 0 (1 + length m.written) (subst (λ (k : ℕ). slot w k 0 ≡ slot w (length m.entries) (1 + length m.written)) same e) in omega arith

  -- posts
  module _ (key : PositionSet) (over : IsKeyOf p key) (whole : m.written ≡ words_of key) (few : length m.entries < size) where
    abbrev len : ℕ
    len = length m.entries

    abbrev posted : Board
    posted = board_of p size (main_steps s (slot (key_width p) len 0) 1 (after_post m))

    abbrev words : List ℕ
    words = set s.words (slot (key_width p) len 0) 1

    shown : key_of_words (length m.problem.roots) m.written ≡ key
    shown = ap (λ (q : ClauseProblem). key_of_words (length q.roots) m.written) (ap (λ (k : MainView). k.problem) (sym (main_view p size s r m has)) ∙ r.problem.main_seat.0) ∙ key_shown p key m.written over whole

    posted_known : known_in (set s.views 0 (Main (after_post m))) ≡ m.entries ++ fresh_entry key ∷ []
    posted_known = known_main p size s r (after_post m) ∙ ap (λ (k : PositionSet). m.entries ++ fresh_entry k ∷ []) shown

    posted_entries : posted.entries ≡ b.entries ++ record { key = key; cell = Posted; cancelled = false } ∷ []
    posted_entries = ap (entries_read p words 0) posted_known ∙ entries_end p words 0 m.entries len (fresh_entry key) (omega arith)
        ∙ (λ i. (entries_same p s.words words 0 m.entries (λ t low high. state_else p size s r len 1 few t (λ z. omega arith)) ∙ sym (ap (entries_read p s.words 0) known_m)) i
        ++ entry_read (state_own p size s r len 1 few i) (fresh_entry key) ∷ [])

    posted_stop : posted.stopped ≡ b.stopped
    posted_stop = ap (λ (k : ℕ). eqb k 1) (state_stop p size s r len 1 few)

    room : length b.entries < size
    room = let many = entries_length p s.words 0 (known_in s.views) in let same = ap (λ (l : List KnownEntry). length l) known_m in let few' = few in omega arith

    post_from : (stopped : Bool) → stopped ≡ false → post (length p.roots) key (record b { stopped = stopped }) ≡ Some (record posted { stopped = stopped })
    post_from stopped running = posts (record b { stopped = stopped }) (length p.roots) key running room over.1
        ∙ ap Some (same_board _ _ (sym posted_entries) (sym (ap (λ (k : ℕ). min k size) (state_cursor p size s r len 1 few))) (tickets (after_post m)) refl refl)

    pub post_is : IsEventUnlessStopped p (Post key) b posted
    post_is = record {
      running = λ running verdict are. post_from b.stopped running ∙ ap (λ (q : Bool). Some (record posted { stopped = q })) (sym posted_stop);
      stopped = λ verdict are. post_from false refl;
      same = posted_stop;
    }
