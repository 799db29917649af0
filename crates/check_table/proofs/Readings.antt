-- How a step changes the board that is read off the table.
use Rattle.std.proofs.Common.{◌≡◌, ◌≢◌, ℕ, ◌<◌, ◌≤◌, min, Bool, cond, List, [], get_or, set, sym, refl, ap, ◌∙◌, arith, eqb, eq-eqb, ne_eqb, get_or-set_same, get_or-set_other}
use Rattle.std.specs.Prelude.{slice_set, Option, Some}
use Rattle.std.proofs.lemmas.List.{set-get_or}
use mathlib.Core.Option.{some}
use lib.ListN.{get_elem?}
use Rattle.atomic_table.proofs.Lists.{set_else, set_here}
use Rattle.req_keys.specs.Key.{PositionSet}
use Rattle.req_keys.specs.declared.verdict.Verdict.{Verdict}
use Rattle.clauses.specs.Problem.{ClauseProblem}
use Rattle.board.specs.declared.state.Entry.{Entry}
use Rattle.board.specs.declared.state.Board.{Board}
use Rattle.check_table.specs.Places.{key_width, slot, IsVerdictOf}
use Rattle.check_table.specs.Rule.{Rule, TableState}
use Rattle.check_table.specs.Board.{state_word, entry_read, entries_read, known_in, ticket_by_number, board_of}
use Rattle.check_table.specs.Laws.{HasWorker, exchanged}
use Rattle.check_table.specs.declared.view.KnownEntry.{KnownEntry}
use Rattle.check_table.specs.declared.view.MainView.{MainView}
use Rattle.check_table.specs.declared.view.WorkerView.{WorkerView}
use Rattle.check_table.specs.declared.view.View.{View}
use Rattle.check_table.specs.declared.view.View.TheVariants.{Main}
use Rattle.check_table.proofs.Slots.{same_entry, slot_in, slot_past}
use Rattle.check_table.proofs.Entries.{at_less}
use Rattle.check_table.proofs.Workers.{not_main}
use Rattle.check_table.proofs.Boards.{same_board, entries_same, entries_set, known_is, Alone, listed}

pub exchanged_hit : (old new x : ℕ) → x ≡ old → exchanged old new x ≡ new
exchanged_hit old new x is = ap (λ (b : Bool). cond b new x) (eq-eqb x old is)

pub exchanged_miss : (old new x : ℕ) → x ≢ old → exchanged old new x ≡ x
exchanged_miss old new x ne = ap (λ (b : Bool). cond b new x) (ne_eqb x old ne)

-- a key has one verdict
pub one_verdict : (p : ClauseProblem) (key : PositionSet) (u v : Verdict) → IsVerdictOf p key u → IsVerdictOf p key v → u ≡ v
unfolding IsVerdictOf
one_verdict p key u v a b = let same : Some u ≡ Some v = sym a ∙ b in cc

-- the board of words and views
abbrev pub read_board : ClauseProblem → ℕ → List ℕ → List View → Board
read_board p size words views = board_of p size (record { words = words; homes = []; views = views })

module _ (p : ClauseProblem) (size : ℕ) (s : TableState) (r : Rule p size s) where
  pub alone : (id : ℕ) (w : WorkerView) → HasWorker s id w → Alone s.views id w.number
  alone id w at j v a e = sym (r.tickets.numbers j v a).2 ∙ ap r.holder e ∙ (r.tickets.numbers id w at).2

  pub low : (id : ℕ) (w : WorkerView) → HasWorker s id w → 1 ≤ w.number
  low id w at = (r.tickets.numbers id w at).0

  pub high : (id : ℕ) (w : WorkerView) → HasWorker s id w → w.number ≤ 64
  high id w at = let few = (r.tickets.numbers id w at).1 in let made = r.tickets.counts.made in omega arith

  pub apart : (id : ℕ) (w : WorkerView) → HasWorker s id w → 0 ≢ id
  apart id w at e = not_main r.main w (sym r.main_at ∙ ap (λ (k : ℕ). get_elem? s.views k) e ∙ at)

  pub known_now : known_in s.views ≡ r.main.entries
  known_now = known_is s.views r.main r.main_at

  -- another view of a worker's seat
  pub known_after : (id : ℕ) (w : WorkerView) (v : View) → HasWorker s id w → known_in (set s.views id v) ≡ known_in s.views
  known_after id w v at = known_is (set s.views id v) r.main (set_else s.views id 0 v (apart id w at) ∙ r.main_at) ∙ sym known_now

  pub known_main : (m : MainView) → known_in (set s.views 0 (Main m)) ≡ m.entries
  known_main m = known_is (set s.views 0 (Main m)) m (set_here s.views 0 (Main m) (at_less s.views 0 (Main r.main) r.main_at))

  -- the views alone change
  pub views_board : (views : List View) (T : List (Option ℕ)) → ((words : List ℕ) → entries_read p words 0 (known_in views) ≡ entries_read p words 0 (known_in s.views)) → T ≡ listed (ticket_by_number views)
      → record (board_of p size s) { tickets = T } ≡ read_board p size s.words views
  views_board views T same tickets = λ i. record (board_of p size s) { entries = sym (same s.words) i; tickets = tickets i }

  -- and a word is written as it was
  pub kept_board : (i n : ℕ) (views : List View) (T : List (Option ℕ)) → get_or s.words i 0 ≡ n → ((words : List ℕ) → entries_read p words 0 (known_in views) ≡ entries_read p words 0 (known_in s.views)) → T ≡ listed (ticket_by_number views)
      → record (board_of p size s) { tickets = T } ≡ read_board p size (set s.words i n) views
  kept_board i n views T is same tickets = views_board views T same tickets ∙ ap (λ (l : List ℕ). read_board p size l views) (sym (ap (set s.words i) (sym is) ∙ set-get_or s.words i 0))

  -- a word that is no entry's state changes
  module _ (i n : ℕ) (other : (t : ℕ) → slot (key_width p) t 0 ≢ i) where
    pub other_states : (t : ℕ) → state_word p (set s.words i n) t ≡ state_word p s.words t
    other_states t = get_or-set_other s.words i (slot (key_width p) t 0) n 0 (other t)

    pub other_entries : (es : List KnownEntry) → entries_read p (set s.words i n) 0 es ≡ entries_read p s.words 0 es
    other_entries es = entries_same p s.words (set s.words i n) 0 es (λ t _ _. other_states t)

  -- the state word of entry t changes
  module _ (t : ℕ) (n : ℕ) (within : t < size) where
    pub state_cursor : get_or (set s.words (slot (key_width p) t 0) n) 0 0 ≡ get_or s.words 0 0
    state_cursor = let past = slot_past (key_width p) t 0 in get_or-set_other s.words (slot (key_width p) t 0) 0 n 0 (omega arith)

    pub state_stop : get_or (set s.words (slot (key_width p) t 0) n) 1 0 ≡ get_or s.words 1 0
    state_stop = let past = slot_past (key_width p) t 0 in get_or-set_other s.words (slot (key_width p) t 0) 1 n 0 (omega arith)

    pub state_own : state_word p (set s.words (slot (key_width p) t 0) n) t ≡ n
    state_own = let inside = slot_in (key_width p) t 0 size within (omega arith) in let long = r.keys.sized in get_or-set_same s.words (slot (key_width p) t 0) n 0 (omega arith)

    pub state_else : (u : ℕ) → u ≢ t → state_word p (set s.words (slot (key_width p) t 0) n) u ≡ state_word p s.words u
    state_else u ne = get_or-set_other s.words (slot (key_width p) t 0) (slot (key_width p) u 0) n 0 (λ e. ne (same_entry (key_width p) u t 0 0 (omega arith) (omega arith) e))

    pub state_board : (e : KnownEntry) (E : Entry) (views : List View) (T : List (Option ℕ)) → get_elem? r.main.entries t ≡ some e → entry_read n e ≡ E
        → ((words : List ℕ) → entries_read p words 0 (known_in views) ≡ entries_read p words 0 (known_in s.views)) → T ≡ listed (ticket_by_number views)
        → record (board_of p size s) { entries = slice_set (board_of p size s).entries t E; tickets = T } ≡ read_board p size (set s.words (slot (key_width p) t 0) n) views
    state_board e E views T at is same tickets =
        let at' = ap (λ (l : List KnownEntry). get_elem? l t) known_now ∙ at in
        let words : List ℕ = set s.words (slot (key_width p) t 0) n in
        let entries = entries_set p s.words words 0 (known_in s.views) t t e (omega arith) at' (λ u ne _. state_else u ne) in
        let now = ap (λ (k : ℕ). entry_read k e) state_own ∙ is in
        same_board _ _
        (sym (same words ∙ entries ∙ ap (slice_set (board_of p size s).entries t) now))
        (sym (ap (λ (k : ℕ). min k size) state_cursor))
        tickets
        (sym (ap (λ (k : ℕ). eqb k 1) state_stop))
        refl
