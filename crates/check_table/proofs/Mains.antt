-- The steps of the main seat keep the rule.
use Rattle.std.proofs.Common.{bit_or, ◌≡◌, ◌≢◌, ⊎_elim, ℕ, zero, suc, ◌+◌, ◌<◌, ◌≤◌, Bool, cond, true, false, true≢false, ◌||◌, List, [], ◌∷◌, ◌++◌, length, get_or, set, Some, sym, refl, ap, ◌∙◌, subst, arith, eqb, eqb-true, length-set, length-append, get_or-set_same, get_or-set_other}
use Rattle.std.proofs.lemmas.List.{set-get_or}
use mathlib.Core.Logic.{dite}
use mathlib.Core.Option.{some, none, some-injective, some-ne-none}
use native.Mathlib.Decide.{ℕ_discrete}
use lib.ListN.{get_elem?}
use prog.Atomic.{either}
use Rattle.atomic_table.specs.Table.{step, keeps, stepped, Allows, Splits, Joins}
use Rattle.atomic_table.proofs.Lists.{at_set, set_else, set_here}
use Rattle.clauses.specs.Problem.{ClauseProblem}
use Rattle.req_keys.specs.Key.{PositionSet}
use Rattle.req_keys.specs.Words.{word_of, words_of, key_of_words}
use Rattle.check_table.specs.Places.{key_width, slot, code, IsKeyOf, IsVerdictOf}
use Rattle.check_table.specs.Views.{noted, after_write, after_post, posted_key, fresh_entry, after_look, after_take, after_stop, after_cancel, newcomer, after_leave, answer_met, change_at}
use Rattle.check_table.specs.Rule.{TableState, MarkStands, IsBegun, RunsThere, Rule, total, is_live, is_done, marked, mark_in}
use Rattle.check_table.specs.Steps.{Seat, Tells, writes, posts, looks, takes, stops, cancels, left_of_split, right_of_split, both_joined}
use Rattle.check_table.proofs.Fits.{WordsFit, EntryFits, BoardFits, StageFits, WorkerFits, ViewFits, Fits, allowed, splits, joins}
use Rattle.check_table.proofs.Keys.{key_shown, words_long, word_at}
use Rattle.check_table.specs.inside.Seated.{main_of}
use Rattle.req_keys.specs.declared.verdict.Cell.{Cell}
use Rattle.req_keys.specs.declared.verdict.Cell.TheVariants.{Empty, Posted, Running, Mine, Answered}
use Rattle.req_keys.specs.declared.verdict.Verdict.{Verdict}
use Rattle.req_keys.specs.declared.verdict.Verdict.TheVariants.{Sat, Unsat, Limit}
use Rattle.check_table.specs.declared.view.KnownEntry.{KnownEntry}
use Rattle.check_table.specs.declared.view.MainView.{MainView}
use Rattle.check_table.specs.declared.view.WorkerView.{WorkerView}
use Rattle.check_table.specs.declared.view.Stage.{Stage}
use Rattle.check_table.specs.declared.view.Stage.TheVariants.{Idle, Holds, Runs}
use Rattle.check_table.specs.declared.view.View.{View}
use Rattle.check_table.specs.declared.view.View.TheVariants.{Main, Worker, Spent}
use Rattle.check_table.proofs.Slots.{same_word, same_entry, slot_in, slot_past}
use Rattle.check_table.proofs.Codes.{upd, upd_same, upd_else, is_posted, is_answered, marks_code}
use Rattle.check_table.proofs.Entries.{at_less, less_at, at_end, before_end, end_is, marked_end, marked_new, marked_past, change_here, change_else, change_length, change_marked, change_from}
use Rattle.check_table.proofs.Words.{state_moves}
use Rattle.check_table.proofs.Workers.{total_set, not_main, worker_in}

abbrev pub KeysStay : List KnownEntry → List KnownEntry → Type 0
KeysStay es es' = (t : ℕ) (e : KnownEntry) → get_elem? es t ≡ some e → (e' : KnownEntry) × (get_elem? es' t ≡ some e') × (e'.key ≡ e.key)

module _ (p : ClauseProblem) (size : ℕ) where
  stage_under : (main main' : MainView) (cursor : ℕ) (cells cells' : ℕ → Cell) (owner : ℕ → ℕ) (id number : ℕ) (stage : Stage)
      → KeysStay main.entries main'.entries → ((t n : ℕ) → cells t ≡ Running n → cells' t ≡ Running n) → ((t : ℕ) → IsBegun (cells' t) → IsBegun (cells t))
      → StageFits main cursor cells owner id number stage → StageFits main' cursor cells' owner id number stage
  stage_under main main' cursor cells cells' owner id number Idle keys run begins f = tt
  stage_under main main' cursor cells cells' owner id number (Holds t) keys run begins f = (f.0, f.1, λ b. f.2 (begins t b))
  stage_under main main' cursor cells cells' owner id number (Runs t read) keys run begins f = let k = keys t f.2.entry f.2.at in
      (f.0, f.1, record { running = run t number f.2.running; entry = k.0; at = k.1; read_is = λ j n c. f.2.read_is j n c ∙ ap (λ (l : PositionSet). word_of l j) (sym k.2) })

  mark_under : (main main' : MainView) → ((t : ℕ) → marked main.entries t ≡ true → marked main'.entries t ≡ true) → (g : Stage) → MarkStands main.entries g → MarkStands main'.entries g
  mark_under main main' on Idle f = tt
  mark_under main main' on (Holds t) f = tt
  mark_under main main' on (Runs t read) f = on t f

  -- a worker's view under another main view
  pub worker_under : (main main' : MainView) (cursor : ℕ) (cells cells' : ℕ → Cell) (owner holder : ℕ → ℕ) (id : ℕ) (w : WorkerView)
      → main.made ≤ main'.made → (main.stopped ≡ true → main'.stopped ≡ true) → KeysStay main.entries main'.entries → ((t n : ℕ) → cells t ≡ Running n → cells' t ≡ Running n) → ((t : ℕ) → IsBegun (cells' t) → IsBegun (cells t)) → ((t : ℕ) → marked main.entries t ≡ true → marked main'.entries t ≡ true)
      → WorkerFits p size main cursor cells owner holder id w → WorkerFits p size main' cursor cells' owner holder id w
  worker_under main main' cursor cells cells' owner holder id w made stop keys run begins marked_on f = let n = f.number in record {
    problem = f.problem;
    sized = f.sized;
    named = f.named;
    number = omega arith;
    held = f.held;
    stop = λ e. stop (f.stop e);
    mark = λ e. mark_under main main' marked_on w.stage (f.mark e);
    stage = stage_under main main' cursor cells cells' owner id w.number w.stage keys run begins f.stage;
  }

  module _ (s : TableState) (r : Fits p size s) where
    -- who runs an entry is no main seat
    runner_stays : (v : View) (t m : ℕ) → RunsThere s.views (r.owner t) t m → RunsThere (set s.views 0 v) (r.owner t) t m
    runner_stays v t m q = record {
      view = q.view;
      read = q.read;
      number = q.number;
      runs = q.runs;
      at = set_else s.views 0 (r.owner t) v (λ e. not_main r.main q.view (sym r.main_at ∙ ap (λ (k : ℕ). get_elem? s.views k) (sym e) ∙ q.at)) ∙ q.at;
    }

    -- what a step of the main seat owes
    pub main_moves : (i n : ℕ) (main' : MainView) (cells' : ℕ → Cell)
        → r.main.made ≡ main'.made → r.main.left ≡ main'.left → r.main.left_done ≡ main'.left_done
        → (r.main.stopped ≡ true → main'.stopped ≡ true) → KeysStay r.main.entries main'.entries → ((t n : ℕ) → r.cells t ≡ Running n → cells' t ≡ Running n)
        → ((t : ℕ) → IsBegun (cells' t) → IsBegun (r.cells t)) → ((t n : ℕ) → cells' t ≡ Running n → r.cells t ≡ Running n) → ((t : ℕ) → marked main'.entries t ≡ false → marked r.main.entries t ≡ false)
        → ((t : ℕ) → marked r.main.entries t ≡ true → marked main'.entries t ≡ true)
        → WordsFit p size (set s.words i n) main' r.cursor cells'
        → BoardFits p size main' cells'
        → Fits p size (stepped s i n 0 [] (Main main') keeps)
    main_moves i n main' cells' made left left_done stop keys run begins back marks marked_on words board = record {
      main = main';
      cursor = r.cursor;
      cells = cells';
      owner = r.owner;
      holder = r.holder;
      main_at = set_here s.views 0 (Main main') (at_less s.views 0 (Main r.main) r.main_at);
      words = words;
      board = board;
      fits = λ j v e. ⊎_elim
          (λ (x : (j ≡ 0) × (Main main' ≡ v)). subst (λ (u : View). ViewFits p size main' r.cursor cells' r.owner r.holder j u) x.1 (x.0, refl))
          (λ (x : (j ≢ 0) × (get_elem? s.views j ≡ some v)). under j v x.0 (r.fits j v x.1))
          (at_set s.views 0 j (Main main') v e);
      counts = let k = r.counts in let k0 = k.reached in let k1 = k.live in let k2 = k.left in let k3 = k.made in
          let d = total_set is_done s.views 0 (Main r.main) (Main main') r.main_at in let l = total_set is_live s.views 0 (Main r.main) (Main main') r.main_at in
          record { reached = omega arith; live = omega arith; left = omega arith; made = omega arith; small = k.small };
      begun = λ t b. r.begun t (begins t b);
      runner = λ t m is bare. runner_stays (Main main') t m (r.runner t m (back t m is) (marks t bare));
    }
      where
        under : (j : ℕ) (v : View) → j ≢ 0 → ViewFits p size r.main r.cursor r.cells r.owner r.holder j v → ViewFits p size main' r.cursor cells' r.owner r.holder j v
        under j (Main m) ne f = absurd (ne f.0)
        under j (Worker w) ne f = worker_under r.main main' r.cursor r.cells cells' r.owner r.holder j w (omega arith) stop keys run begins marked_on f
        under j Spent ne f = tt

    -- Write
    writes_at : (x : ℕ) → length r.main.written < key_width p → length r.main.entries < size
        → Fits p size (stepped s (slot (key_width p) (length r.main.entries) (1 + length r.main.written)) x 0 [] (Main (after_write x r.main)) keeps)
    writes_at x small few = let w : ℕ = key_width p in let len : ℕ = length r.main.entries in let at : ℕ = length r.main.written in let i : ℕ = slot w len (1 + at) in
        let past = slot_past w len (1 + at) in let inside = slot_in w len (1 + at) size few (omega arith) in let fit = r.words in let big = fit.sized in
        main_moves i x (after_write x r.main) r.cells refl refl refl (λ e. e) (λ t e k. (e, k, refl)) (λ t n e. e) (λ t b. b) (λ t n e. e) (λ t e. e) (λ t e. e)
        (record {
          sized = length-set s.words i x ∙ fit.sized;
          cursor_at = get_or-set_other s.words i 0 x 0 (omega arith) ∙ fit.cursor_at;
          stop_at = get_or-set_other s.words i 1 x 0 (omega arith) ∙ fit.stop_at;
          states = λ u before. get_or-set_other s.words i (slot w u 0) x 0 (λ is. let same = same_entry w u len 0 (1 + at) (omega arith) (omega arith) is in
              let no : 0 ≡ 1 + at = same_word w len 0 (1 + at) (subst (λ (k : ℕ). slot w k 0 ≡ slot w len (1 + at)) same is) in absurd (omega arith)) ∙ fit.states u before;
          keys = λ u j e at_u less. let below = at_less r.main.entries u e at_u in get_or-set_other s.words i (slot w u (1 + j)) x 0 (λ is. let same = same_entry w u len (1 + j) (1 + at) (omega arith) (omega arith) is in absurd (omega arith)) ∙ fit.keys u j e at_u less;
          next = λ j less before. next j less before (ℕ_discrete j at);
        })
        (let b = r.board in let more = length-append r.main.written (x ∷ []) in record { problem = b.problem; sized = b.sized; few = b.few; row = omega arith; empty = b.empty; entry = b.entry })
      where
        next : (j : ℕ) → j < length (r.main.written ++ x ∷ []) → length r.main.entries < size → Dec (j ≡ length r.main.written)
            → get_or (set s.words (slot (key_width p) (length r.main.entries) (1 + length r.main.written)) x) (slot (key_width p) (length r.main.entries) (1 + j)) 0 ≡ get_or (r.main.written ++ x ∷ []) j 0
        next j less before (yes is) = let i : ℕ = slot (key_width p) (length r.main.entries) (1 + length r.main.written) in
            let inside = slot_in (key_width p) (length r.main.entries) (1 + length r.main.written) size few (omega arith) in let big = r.words.sized in
            subst (λ (k : ℕ). get_or (set s.words i x) (slot (key_width p) (length r.main.entries) (1 + k)) 0 ≡ get_or (r.main.written ++ x ∷ []) k 0) (sym is)
            (get_or-set_same s.words i x 0 (omega arith) ∙ sym (end_is r.main.written x 0))
        next j less before (no ne) = let i : ℕ = slot (key_width p) (length r.main.entries) (1 + length r.main.written) in let more = length-append r.main.written (x ∷ []) in let under : j < length r.main.written = omega arith in
            get_or-set_other s.words i (slot (key_width p) (length r.main.entries) (1 + j)) x 0 (λ is. let same = same_word (key_width p) (length r.main.entries) (1 + j) (1 + length r.main.written) is in ne (omega arith))
            ∙ r.words.next j under before ∙ sym (before_end r.main.written x 0 j under)

    -- Post
    posts_at : (key : PositionSet) → IsKeyOf p key → r.main.written ≡ words_of key → length r.main.entries < size
        → Fits p size (stepped s (slot (key_width p) (length r.main.entries) 0) 1 0 [] (Main (posted_key key r.main)) keeps)
    posts_at key over is_key few = let w : ℕ = key_width p in let len : ℕ = length r.main.entries in let i : ℕ = slot w len 0 in
        let past = slot_past w len 0 in let inside = slot_in w len 0 size few (omega arith) in let fit = r.words in let big = fit.sized in let b = r.board in
        let e0 : KnownEntry = fresh_entry key in let cells' : ℕ → Cell = upd r.cells len Posted in
        let whole : length r.main.written ≡ w = ap (λ (l : List ℕ). length l) is_key ∙ words_long p key over in
        let was_empty : r.cells len ≡ Empty = b.empty len (omega arith) in
        main_moves i 1 (posted_key key r.main) cells' refl refl refl (λ e. e)
        (λ t e k. (e, longer r.main.entries e0 t e k, refl))
        (λ t n e. upd_else r.cells len t Posted (λ is. let z : Empty ≡ Running n = sym was_empty ∙ ap r.cells (sym is) ∙ e in cc) ∙ e)
        (λ t b. dite (ℕ_discrete t len) (λ e. absurd (subst IsBegun (ap cells' e ∙ upd_same r.cells len Posted) b)) (λ ne. subst IsBegun (upd_else r.cells len t Posted ne) b))
        (λ t n q. dite (ℕ_discrete t len) (λ e. let z : Posted ≡ Running n = sym (upd_same r.cells len Posted) ∙ ap cells' (sym e) ∙ q in absurd (cc)) (λ ne. sym (upd_else r.cells len t Posted ne) ∙ q))
        (λ t e. dite (ℕ_discrete t len) (λ is. marked_past r.main.entries t (omega arith)) (λ ne. sym (marked_end r.main.entries e0 t ne) ∙ e))
        (λ t e. dite (ℕ_discrete t len) (λ is. absurd (true≢false (sym e ∙ marked_past r.main.entries t (omega arith)))) (λ ne. marked_end r.main.entries e0 t ne ∙ e))
        (record {
          sized = length-set s.words i 1 ∙ fit.sized;
          cursor_at = get_or-set_other s.words i 0 1 0 (omega arith) ∙ fit.cursor_at;
          stop_at = get_or-set_other s.words i 1 1 0 (omega arith) ∙ fit.stop_at;
          states = λ u before. states u before (ℕ_discrete u len);
          keys = λ u j e at_u less. get_or-set_other s.words i (slot w u (1 + j)) 1 0 (λ is. let same = same_entry w u len (1 + j) 0 (omega arith) (omega arith) is in
              let no : 1 + j ≡ 0 = same_word w len (1 + j) 0 (subst (λ (k : ℕ). slot w k (1 + j) ≡ slot w len 0) same is) in absurd (omega arith))
              ∙ ⊎_elim (λ (a : get_elem? r.main.entries u ≡ some e). fit.keys u j e a less)
              (λ (a : (u ≡ len) × (e0 ≡ e)). ap (λ (k : ℕ). get_or s.words (slot w k (1 + j)) 0) a.0 ∙ fit.next j (omega arith) few ∙ ap (λ (l : List ℕ). get_or l j 0) is_key ∙ word_at p key j over less ∙ ap (λ (y : KnownEntry). word_of y.key j) a.1)
              (at_end r.main.entries e0 e u at_u);
          next = λ j less before. absurd (omega arith);
        })
        (record {
          problem = b.problem;
          sized = b.sized;
          few = let more = length-append r.main.entries (e0 ∷ []) in omega arith;
          row = omega arith;
          empty = λ t past'. let more = length-append r.main.entries (e0 ∷ []) in upd_else r.cells len t Posted (λ e. absurd (omega arith)) ∙ b.empty t (omega arith);
          entry = λ u e at_u. ⊎_elim
              (λ (a : get_elem? r.main.entries u ≡ some e). let below = at_less r.main.entries u e a in subst (λ (c : Cell). EntryFits p e c) (sym (upd_else r.cells len u Posted (λ z. absurd (omega arith)))) (b.entry u e a))
              (λ (a : (u ≡ len) × (e0 ≡ e)). subst (λ (c : Cell). EntryFits p e c) (sym (ap cells' a.0 ∙ upd_same r.cells len Posted)) (subst (λ (y : KnownEntry). EntryFits p y Posted) a.1 new_fits))
              (at_end r.main.entries e0 e u at_u);
        })
      where
        longer : (l : List KnownEntry) (a : KnownEntry) (t : ℕ) (e : KnownEntry) → get_elem? l t ≡ some e → get_elem? (l ++ a ∷ []) t ≡ some e
        longer [] a t e k = absurd (some-ne-none e (sym k))
        longer (x ∷ xs) a zero e k = k
        longer (x ∷ xs) a (suc t) e k = longer xs a t e k

        new_fits : EntryFits p (fresh_entry key) Posted
        new_fits = record { worker = λ n z. absurd (cc); key = over; there = λ z. cc; mine = ((λ z. absurd (cc)), λ z. absurd (true≢false (sym z))); right = λ v z. absurd (cc); kept = λ v z. absurd (cc) }

        states : (u : ℕ) → u < size → Dec (u ≡ length r.main.entries)
            → get_or (set s.words (slot (key_width p) (length r.main.entries) 0) 1) (slot (key_width p) u 0) 0 ≡ code (upd r.cells (length r.main.entries) Posted u) (marked (r.main.entries ++ fresh_entry key ∷ []) u)
        states u before (yes is) = let len : ℕ = length r.main.entries in let i : ℕ = slot (key_width p) len 0 in let inside = slot_in (key_width p) len 0 size few (omega arith) in let big = r.words.sized in
            subst (λ (k : ℕ). get_or (set s.words i 1) (slot (key_width p) k 0) 0 ≡ code (upd r.cells len Posted k) (marked (r.main.entries ++ fresh_entry key ∷ []) k)) (sym is)
            (get_or-set_same s.words i 1 0 (omega arith) ∙ sym (ap (λ (c : Cell). code c (marked (r.main.entries ++ fresh_entry key ∷ []) len)) (upd_same r.cells len Posted) ∙ ap (code Posted) (marked_new r.main.entries (fresh_entry key))))
        states u before (no ne) = let len : ℕ = length r.main.entries in let i : ℕ = slot (key_width p) len 0 in
            get_or-set_other s.words i (slot (key_width p) u 0) 1 0 (λ is. ne (same_entry (key_width p) u len 0 0 (omega arith) (omega arith) is))
            ∙ r.words.states u before ∙ sym (ap (λ (c : Cell). code c (marked (r.main.entries ++ fresh_entry key ∷ []) u)) (upd_else r.cells len u Posted ne) ∙ ap (code (r.cells u)) (marked_end r.main.entries (fresh_entry key) u ne))

    -- what was seen is what stands there
    pub seen_right : (e : KnownEntry) (c : Cell) (m : Bool) (x : ℕ) → code c m ≡ x → EntryFits p e c → (v : Verdict) → answer_met x e.seen ≡ Some v → c ≡ Answered v
    seen_right e c m x is f v got = five (eqb x 5) refl (eqb x 6) refl (eqb x 7) refl got
      where
        five : (a : Bool) → eqb x 5 ≡ a → (b : Bool) → eqb x 6 ≡ b → (d : Bool) → eqb x 7 ≡ d → cond a (Some Sat) (cond b (Some Unsat) (cond d (Some Limit) e.seen)) ≡ Some v → c ≡ Answered v
        five true e5 b e6 d e7 g = let same : Sat ≡ v = cc in (is_answered c m Sat (is ∙ eqb-true x 5 e5)).0 ∙ ap Answered same
        five false e5 true e6 d e7 g = let same : Unsat ≡ v = cc in (is_answered c m Unsat (is ∙ eqb-true x 6 e6)).0 ∙ ap Answered same
        five false e5 false e6 true e7 g = let same : Limit ≡ v = cc in (is_answered c m Limit (is ∙ eqb-true x 7 e7)).0 ∙ ap Answered same
        five false e5 false e6 false e7 g = f.kept v g

    -- the words say the same of entries with the same keys and marks
    change_words : (words : List ℕ) (cells : ℕ → Cell) (g : KnownEntry → KnownEntry) (t : ℕ) (tr : _) → ((e : KnownEntry) → (g e).key ≡ e.key) → ((e : KnownEntry) → (g e).cancelled ≡ e.cancelled)
        → WordsFit p size words r.main r.cursor cells → WordsFit p size words (record r.main { entries = change_at g t r.main.entries; trace = tr }) r.cursor cells
    change_words words cells g t tr keys marks fit = let es : List KnownEntry = r.main.entries in let same = change_length g es t in record {
      sized = fit.sized;
      cursor_at = fit.cursor_at;
      stop_at = fit.stop_at;
      states = λ u before. fit.states u before ∙ ap (code (cells u)) (sym (change_marked g marks es t u));
      keys = λ u j e at_u less. let d = change_from g es t u e at_u in fit.keys u j d.0 d.1 less
          ∙ ap (λ (l : PositionSet). word_of l j) (⊎_elim (λ (a : (u ≡ t) × (e ≡ g d.0)). sym (ap (λ (y : KnownEntry). y.key) a.1 ∙ keys d.0)) (λ (a : (u ≢ t) × (e ≡ d.0)). sym (ap (λ (y : KnownEntry). y.key) a.1)) d.2);
      next = λ j less before. ap (λ (k : ℕ). get_or words (slot (key_width p) k (1 + j)) 0) same ∙ fit.next j less (omega arith);
    }

    -- what main knows of one entry changes, and perhaps its cell, but not its key or mark
    entry_moves : (t n : ℕ) (g : KnownEntry → KnownEntry) (tr : _) (cells' : ℕ → Cell)
        → ((e : KnownEntry) → (g e).key ≡ e.key) → ((e : KnownEntry) → (g e).cancelled ≡ e.cancelled)
        → ((u : ℕ) → u ≢ t → cells' u ≡ r.cells u) → t < length r.main.entries → ((m : ℕ) → r.cells t ≡ Running m → cells' t ≡ Running m)
        → (IsBegun (cells' t) → IsBegun (r.cells t)) → ((m : ℕ) → cells' t ≡ Running m → r.cells t ≡ Running m)
        → WordsFit p size (set s.words (slot (key_width p) t 0) n) r.main r.cursor cells'
        → ((e : KnownEntry) → get_elem? r.main.entries t ≡ some e → EntryFits p (g e) (cells' t))
        → Fits p size (stepped s (slot (key_width p) t 0) n 0 [] (Main (record r.main { entries = change_at g t r.main.entries; trace = tr })) keeps)
    entry_moves t n g tr cells' keys marks else below run begins back words fits = let es : List KnownEntry = r.main.entries in let b = r.board in let same = change_length g es t in let few' = b.few in
        main_moves (slot (key_width p) t 0) n (record r.main { entries = change_at g t es; trace = tr }) cells' refl refl refl (λ e. e)
        (λ u e at_u. dite (ℕ_discrete u t)
        (λ is. let at_t : get_elem? es t ≡ some e = ap (λ (k : ℕ). get_elem? es k) (sym is) ∙ at_u in (g e, ap (λ (k : ℕ). get_elem? (change_at g t es) k) is ∙ change_here g es t e at_t, keys e))
        (λ ne. (e, change_else g es t u ne ∙ at_u, refl)))
        (λ u m e. dite (ℕ_discrete u t) (λ is. ap cells' is ∙ run m (ap r.cells (sym is) ∙ e)) (λ ne. else u ne ∙ e))
        (λ u b. dite (ℕ_discrete u t) (λ is. subst (λ (k : ℕ). IsBegun (r.cells k)) (sym is) (begins (subst (λ (k : ℕ). IsBegun (cells' k)) is b))) (λ ne. subst IsBegun (else u ne) b))
        (λ u m q. dite (ℕ_discrete u t) (λ is. ap r.cells is ∙ back m (ap cells' (sym is) ∙ q)) (λ ne. sym (else u ne) ∙ q))
        (λ u e. sym (change_marked g marks es t u) ∙ e)
        (λ u e. change_marked g marks es t u ∙ e)
        (change_words (set s.words (slot (key_width p) t 0) n) cells' g t tr keys marks words)
        (record {
          problem = b.problem;
          sized = b.sized;
          few = omega arith;
          row = b.row;
          empty = λ u past. else u (λ is. omega arith) ∙ b.empty u (omega arith);
          entry = λ u e at_u. let d = change_from g es t u e at_u in ⊎_elim
              (λ (a : (u ≡ t) × (e ≡ g d.0)). subst (λ (y : ℕ × KnownEntry). EntryFits p y.1 (cells' y.0)) (λ k. (sym a.0 k, sym a.1 k)) (fits d.0 (ap (λ (k : ℕ). get_elem? es k) (sym a.0) ∙ d.1)))
              (λ (a : (u ≢ t) × (e ≡ d.0)). subst (λ (y : Cell × KnownEntry). EntryFits p y.1 y.0) (λ k. (sym (else u a.0) k, sym a.1 k)) (b.entry u d.0 d.1)) d.2;
        })

    same_words : (i : ℕ) → WordsFit p size (set s.words i (get_or s.words i 0)) r.main r.cursor r.cells
    same_words i = subst (λ (l : List ℕ). WordsFit p size l r.main r.cursor r.cells) (sym (set-get_or s.words i 0)) r.words

    -- Look
    looks_at : (t : ℕ) → t < length r.main.entries → (place : ℕ) → let x : ℕ = get_or s.words (slot (key_width p) t 0) 0 in Fits p size (stepped s (slot (key_width p) t 0) x 0 [] (Main (after_look t place x r.main)) keeps)
    looks_at t below place = let x : ℕ = get_or s.words (slot (key_width p) t 0) 0 in let few = r.board.few in
        entry_moves t x (λ e. record e { seen = answer_met x e.seen }) (noted place x r.main.trace) r.cells (λ e. refl) (λ e. refl) (λ u ne. refl) below (λ m e. e) (λ b. b) (λ m e. e) (same_words (slot (key_width p) t 0))
        (λ e at_e. let f = r.board.entry t e at_e in record { key = f.key; there = f.there; mine = f.mine; worker = f.worker; right = f.right; kept = seen_right e (r.cells t) (marked r.main.entries t) x (sym (r.words.states t (omega arith))) f })

    -- Take
    takes_at : (t : ℕ) → t < length r.main.entries → (place x : ℕ) → get_or s.words (slot (key_width p) t 0) 0 ≡ x → (b : Bool) → eqb x 1 ≡ b
        → Fits p size (stepped s (slot (key_width p) t 0) (either b 3 x) 0 [] (Main (record r.main { entries = change_at (λ e. record e { seen = answer_met x e.seen; mine = b || e.mine }) t r.main.entries; trace = noted place x r.main.trace })) keeps)
    takes_at t below place x met true hit = let few = r.board.few in let within : t < size = omega arith in let states = r.words.states t within in
        let was = is_posted (r.cells t) (marked r.main.entries t) (sym states ∙ met ∙ eqb-true x 1 hit) in
        entry_moves t 3 (λ e. record e { seen = answer_met x e.seen; mine = true }) (noted place x r.main.trace) (upd r.cells t Mine) (λ e. refl) (λ e. refl) (λ u ne. upd_else r.cells t u Mine ne) below
        (λ m e. let z : Posted ≡ Running m = sym was.0 ∙ e in absurd (cc))
        (λ b. absurd (subst IsBegun (upd_same r.cells t Mine) b)) (λ m e. let z : Mine ≡ Running m = sym (upd_same r.cells t Mine) ∙ e in absurd (cc))
        (subst (λ (m : Bool). WordsFit p size (set s.words (slot (key_width p) t 0) (code Mine m)) r.main r.cursor (upd r.cells t Mine)) was.1 (state_moves p size s.words r.main r.cursor r.cells r.words r.board.row t Mine within))
        (λ e at_e. let f = r.board.entry t e at_e in subst (λ (c : Cell). EntryFits p (record e { seen = answer_met x e.seen; mine = true }) c) (sym (upd_same r.cells t Mine))
        (record {
          key = f.key;
          there = λ z. cc;
          mine = ((λ z. refl), λ z. refl);
          worker = λ m z. absurd (cc);
          right = λ v z. absurd (cc);
          kept = λ v got. let q : r.cells t ≡ Answered v = seen_right e (r.cells t) (marked r.main.entries t) x (sym states ∙ met) f v got in let z : Posted ≡ Answered v = sym was.0 ∙ q in absurd (cc);
        }))
    takes_at t below place x met false miss = let few = r.board.few in let within : t < size = omega arith in
        subst (λ (y : ℕ). Fits p size (stepped s (slot (key_width p) t 0) y 0 [] (Main (record r.main { entries = change_at (λ e. record e { seen = answer_met x e.seen }) t r.main.entries; trace = noted place x r.main.trace })) keeps)) met
        (entry_moves t (get_or s.words (slot (key_width p) t 0) 0) (λ e. record e { seen = answer_met x e.seen }) (noted place x r.main.trace) r.cells (λ e. refl) (λ e. refl) (λ u ne. refl) below (λ m e. e) (λ b. b) (λ m e. e) (same_words (slot (key_width p) t 0))
        (λ e at_e. let f = r.board.entry t e at_e in record { key = f.key; there = f.there; mine = f.mine; worker = f.worker; right = f.right; kept = seen_right e (r.cells t) (marked r.main.entries t) x (sym (r.words.states t within) ∙ met) f }))

    -- Cancel
    abbrev cancelling : KnownEntry → KnownEntry
    cancelling e = record e { cancelled = true }

    cancels_at : (t : ℕ) → t < length r.main.entries → (place x : ℕ) → get_or s.words (slot (key_width p) t 0) 0 ≡ x
        → Fits p size (stepped s (slot (key_width p) t 0) (bit_or x 8) 0 [] (Main (after_cancel t place x r.main)) keeps)
    cancels_at t below place x met = let few = r.board.few in let within : t < size = omega arith in let es : List KnownEntry = r.main.entries in let w : ℕ = key_width p in let i : ℕ = slot w t 0 in let n : ℕ = code (r.cells t) true in
        let past = slot_past w t 0 in let inside = slot_in w t 0 size within (omega arith) in let fit = r.words in let big = fit.sized in let b = r.board in
        let here = less_at es t below in let same = change_length cancelling es t in
        let is : n ≡ bit_or x 8 = sym (marks_code (r.cells t) (marked es t)) ∙ ap (λ (k : ℕ). bit_or k 8) (sym (r.words.states t within) ∙ met) in
        subst (λ (k : ℕ). Fits p size (stepped s i k 0 [] (Main (after_cancel t place x r.main)) keeps)) is
        (main_moves i n (after_cancel t place x r.main) r.cells refl refl refl (λ e. e)
        (λ u e at_u. dite (ℕ_discrete u t)
        (λ is_t. (cancelling e, ap (λ (k : ℕ). get_elem? (change_at cancelling t es) k) is_t ∙ change_here cancelling es t e (ap (λ (k : ℕ). get_elem? es k) (sym is_t) ∙ at_u), refl))
        (λ ne. (e, change_else cancelling es t u ne ∙ at_u, refl)))
        (λ u m e. e) (λ u b. b) (λ u m e. e)
        (λ u e. dite (ℕ_discrete u t)
        (λ is_t. absurd (true≢false (sym (ap mark_in (change_here cancelling es t here.0 here.1)) ∙ ap (λ (k : ℕ). marked (change_at cancelling t es) k) (sym is_t) ∙ e)))
        (λ ne. sym (ap mark_in (change_else cancelling es t u ne)) ∙ e))
        (λ u e. dite (ℕ_discrete u t) (λ is_t. ap (λ (k : ℕ). marked (change_at cancelling t es) k) is_t ∙ ap mark_in (change_here cancelling es t here.0 here.1)) (λ ne. ap mark_in (change_else cancelling es t u ne) ∙ e))
        (record {
          sized = length-set s.words i n ∙ fit.sized;
          cursor_at = get_or-set_other s.words i 0 n 0 (omega arith) ∙ fit.cursor_at;
          stop_at = get_or-set_other s.words i 1 n 0 (omega arith) ∙ fit.stop_at;
          states = λ u before. dite (ℕ_discrete u t)
              (λ e. subst (λ (k : ℕ). get_or (set s.words i n) (slot w k 0) 0 ≡ code (r.cells k) (marked (change_at cancelling t es) k)) (sym e)
              (get_or-set_same s.words i n 0 (omega arith) ∙ ap (λ o. code (r.cells t) (mark_in o)) (sym (change_here cancelling es t here.0 here.1))))
              (λ ne. get_or-set_other s.words i (slot w u 0) n 0 (λ e. ne (same_entry w u t 0 0 (omega arith) (omega arith) e)) ∙ fit.states u before
              ∙ ap (λ o. code (r.cells u) (mark_in o)) (sym (change_else cancelling es t u ne)));
          keys = λ u j e at_u less. let d = change_from cancelling es t u e at_u in get_or-set_other s.words i (slot w u (1 + j)) n 0
              (λ z. let q = same_entry w u t (1 + j) 0 (omega arith) (omega arith) z in let no : 1 + j ≡ 0 = same_word w t (1 + j) 0 (subst (λ (k : ℕ). slot w k (1 + j) ≡ slot w t 0) q z) in absurd (omega arith))
              ∙ fit.keys u j d.0 d.1 less ∙ ap (λ (l : PositionSet). word_of l j) (⊎_elim (λ (a : (u ≡ t) × (e ≡ cancelling d.0)). sym (ap (λ (y : KnownEntry). y.key) a.1)) (λ (a : (u ≢ t) × (e ≡ d.0)). sym (ap (λ (y : KnownEntry). y.key) a.1)) d.2);
          next = λ j less before. get_or-set_other s.words i (slot w (length (change_at cancelling t es)) (1 + j)) n 0
              (λ z. let q = same_entry w (length (change_at cancelling t es)) t (1 + j) 0 (omega arith) (omega arith) z in absurd (omega arith))
              ∙ ap (λ (k : ℕ). get_or s.words (slot w k (1 + j)) 0) same ∙ fit.next j less (omega arith);
        })
        (record {
          problem = b.problem;
          sized = b.sized;
          few = omega arith;
          row = b.row;
          empty = λ u past'. b.empty u (omega arith);
          entry = λ u e at_u. let d = change_from cancelling es t u e at_u in ⊎_elim
              (λ (a : (u ≡ t) × (e ≡ cancelling d.0)). let f = b.entry u d.0 d.1 in subst (λ (y : KnownEntry). EntryFits p y (r.cells u)) (sym a.1) (record { key = f.key; there = f.there; mine = f.mine; right = f.right; kept = f.kept; worker = f.worker }))
              (λ (a : (u ≢ t) × (e ≡ d.0)). subst (λ (y : KnownEntry). EntryFits p y (r.cells u)) (sym a.1) (b.entry u d.0 d.1)) d.2;
        }))

    -- Stop
    stops_at : Fits p size (stepped s 1 1 0 [] (Main (after_stop r.main)) keeps)
    stops_at = let fit = r.words in let big = fit.sized in let b = r.board in
        main_moves 1 1 (after_stop r.main) r.cells refl refl refl (λ _. refl) (λ t e k. (e, k, refl)) (λ t n e. e) (λ t b. b) (λ t n e. e) (λ t e. e) (λ t e. e)
        (record {
          sized = length-set s.words 1 1 ∙ fit.sized;
          cursor_at = get_or-set_other s.words 1 0 1 0 (omega arith) ∙ fit.cursor_at;
          stop_at = get_or-set_same s.words 1 1 0 (omega arith);
          states = λ u before. let past = slot_past (key_width p) u 0 in get_or-set_other s.words 1 (slot (key_width p) u 0) 1 0 (omega arith) ∙ fit.states u before;
          keys = λ u j e at_u less. let past = slot_past (key_width p) u (1 + j) in get_or-set_other s.words 1 (slot (key_width p) u (1 + j)) 1 0 (omega arith) ∙ fit.keys u j e at_u less;
          next = λ j less before. let past = slot_past (key_width p) (length r.main.entries) (1 + j) in get_or-set_other s.words 1 (slot (key_width p) (length r.main.entries) (1 + j)) 1 0 (omega arith) ∙ fit.next j less before;
        })
        (record { problem = b.problem; sized = b.sized; few = b.few; row = b.row; empty = b.empty; entry = b.entry })

  -- the steps as a table asks for them
  abbrev Owes : ℕ → (ℕ → ℕ) → (Seat → ℕ → Seat → Type 0) → MainView → Type 0
  Owes i f then m = (s : TableState) (r : Fits p size s) → r.main ≡ m →
      (m' : MainView) × Fits p size (stepped s i (f (get_or s.words i 0)) 0 [] (Main m') keeps) × then (Main m, []) (get_or s.words i 0) (Main m', [])

  pub main_is : (s : TableState) (r : Fits p size s) (m : MainView) → get_elem? s.views 0 ≡ some (Main m) → r.main ≡ m
  main_is s r m at = ap main_of (some-injective (Main r.main) (Main m) (sym r.main_at ∙ at))

  as_main : (me : Seat) (m : MainView) (slots id i : ℕ) (f : ℕ → ℕ) (then : Seat → ℕ → Seat → Type 0) → me ≡ (Main m, []) → id ≡ 0 → Owes i f then m → Allows (Rule p size) slots id me i f (then me)
  as_main me m slots id i f then is zero_id owes = subst (λ (z : Seat × ℕ). Allows (Rule p size) slots z.1 z.0 i f (then z.0)) (λ k. (sym is k, sym zero_id k))
      (allowed p size slots 0 i (Main m, []) f (then (Main m, [])) (λ s r _ at _. let o = owes s r (main_is s r m at) in (Main o.0, keeps, tt, o.1, o.2)))

  -- the step from the main view that the rule has, at the main view that the seat has
  abbrev From : TableState → ℕ → ℕ → (MainView → MainView) → MainView → Type 0
  From s i n f q = (m' : MainView) × Fits p size (stepped s i n 0 [] (Main m') keeps) × (◌≡◌ {A = Seat} (Main m', []) (Main (f q), []))

  tells : (s : TableState) (r : Fits p size s) (t : ℕ) → t < length r.main.entries → Tells (Main r.main) t (get_or s.words (slot (key_width p) t 0) 0)
  tells s r t below e at = let f = r.board.entry t e at in let few = r.board.few in record {
    cell = r.cells t;
    word = r.words.states t (omega arith) ∙ ap (λ o. code (r.cells t) (mark_in o)) at;
    there = f.there;
    mine = f.mine.0;
    number = f.worker;
    right = λ v is. subst (λ (q : ClauseProblem). IsVerdictOf q e.key v) (sym r.board.problem) (f.right v is);
    kept = f.kept;
  }

  pub may_write : (slots id i : ℕ) (me : Seat) (m : MainView) (x : ℕ) → me ≡ (Main m, []) → id ≡ 0 → length m.written < key_width p → length m.entries < size → i ≡ slot (key_width p) (length m.entries) (1 + length m.written)
      → Allows (Rule p size) slots id me i (λ _. x) (λ _. writes (step slots i x 0 none) me x)
  may_write slots id i me m x is zero_id small few place = subst (λ (z : ℕ). Allows (Rule p size) slots id me z (λ _. x) (λ _. writes (step slots z x 0 none) me x)) (sym place)
      (let i' : ℕ = slot (key_width p) (length m.entries) (1 + length m.written) in as_main me m slots id i' (λ _. x) (λ (v : Seat) _. writes (step slots i' x 0 none) v x) is zero_id
      (λ s r same. subst (λ (q : MainView). (length q.written < key_width p) → (length q.entries < size) → From s (slot (key_width p) (length q.entries) (1 + length q.written)) x (after_write x) q) same
      (λ a b. (after_write x r.main, writes_at s r x a b, refl)) small few))

  pub may_post : (slots id i : ℕ) (me : Seat) (m : MainView) (key : PositionSet) → me ≡ (Main m, []) → id ≡ 0 → IsKeyOf p key → m.written ≡ words_of key → length m.entries < size → i ≡ slot (key_width p) (length m.entries) 0
      → Allows (Rule p size) slots id me i (λ _. 1) (λ _. posts (step slots i 1 0 none) me 1)
  may_post slots id i me m key is zero_id over whole few place = subst (λ (z : ℕ). Allows (Rule p size) slots id me z (λ _. 1) (λ _. posts (step slots z 1 0 none) me 1)) (sym place)
      (let i' : ℕ = slot (key_width p) (length m.entries) 0 in as_main me m slots id i' (λ _. 1) (λ (v : Seat) _. posts (step slots i' 1 0 none) v 1) is zero_id
      (λ s r same. subst (λ (q : MainView). (q.written ≡ words_of key) → (length q.entries < size) → From s (slot (key_width p) (length q.entries) 0) 1 after_post q) same
      (λ a b. let shown : key ≡ key_of_words (length r.main.problem.roots) r.main.written = sym (ap (λ (q : ClauseProblem). key_of_words (length q.roots) r.main.written) r.board.problem ∙ key_shown p key r.main.written over a) in
      (after_post r.main, subst (λ (k : PositionSet). Fits p size (stepped s (slot (key_width p) (length r.main.entries) 0) 1 0 [] (Main (posted_key k r.main)) keeps)) shown (posts_at s r key over a b), refl)) whole few))

  pub may_stop : (slots id : ℕ) (me : Seat) (m : MainView) → me ≡ (Main m, []) → id ≡ 0 → Allows (Rule p size) slots id me 1 (λ _. 1) (λ _. stops (step slots 1 1 0 none) me 1)
  may_stop slots id me m is zero_id = as_main me m slots id 1 (λ _. 1) (λ (v : Seat) _. stops (step slots 1 1 0 none) v 1) is zero_id
      (λ s r same. subst (λ (q : MainView). From s 1 1 after_stop q) same (after_stop r.main, stops_at s r, refl))

  pub may_look : (slots id i : ℕ) (me : Seat) (m : MainView) (t : ℕ) → me ≡ (Main m, []) → id ≡ 0 → m.problem ≡ p → t < length m.entries → i ≡ slot (key_width p) t 0
      → Allows (Rule p size) slots id me i (λ n. n) (looks (step slots i 0 0 none) me)
  may_look slots id i me m t is zero_id of below place = subst (λ (z : ℕ). Allows (Rule p size) slots id me z (λ n. n) (looks (step slots z 0 0 none) me)) (sym place)
      (let i' : ℕ = slot (key_width p) t 0 in as_main me m slots id i' (λ n. n) (looks (step slots i' 0 0 none)) is zero_id
      (λ s r same. let x : ℕ = get_or s.words i' 0 in let o = subst (λ (q : MainView). (t < length q.entries) → From s i' x (after_look t i' x) q) same (λ a. (after_look t i' x r.main, looks_at s r t a i', refl)) below in (
        o.0,
        o.1,
        λ u at_u. let is_u : t ≡ u = same_entry (key_width p) t u 0 0 (omega arith) (omega arith) (at_u ∙ ap (λ (q : ClauseProblem). slot (key_width q) u 0) of) in
            (o.2 ∙ ap (λ (k : ℕ). (Main (after_look k i' x m), [])) is_u, subst (λ (k : ℕ). Tells (Main m) k x) is_u (subst (λ (q : MainView). (t < length q.entries) → Tells (Main q) t x) same (tells s r t) below)),
      )))

  pub may_take : (slots id i : ℕ) (me : Seat) (m : MainView) (t : ℕ) → me ≡ (Main m, []) → id ≡ 0 → m.problem ≡ p → t < length m.entries → i ≡ slot (key_width p) t 0
      → Allows (Rule p size) slots id me i (λ n. either (eqb n 1) 3 n) (takes (step slots i 1 3 none) me)
  may_take slots id i me m t is zero_id of below place = subst (λ (z : ℕ). Allows (Rule p size) slots id me z (λ n. either (eqb n 1) 3 n) (takes (step slots z 1 3 none) me)) (sym place)
      (let i' : ℕ = slot (key_width p) t 0 in as_main me m slots id i' (λ n. either (eqb n 1) 3 n) (takes (step slots i' 1 3 none)) is zero_id
      (λ s r same. let x : ℕ = get_or s.words i' 0 in let o = subst (λ (q : MainView). (t < length q.entries) → From s i' (either (eqb x 1) 3 x) (after_take t i' x) q) same (λ a. (after_take t i' x r.main, takes_at s r t a i' x refl (eqb x 1) refl, refl)) below in (
        o.0,
        o.1,
        λ u at_u. let is_u : t ≡ u = same_entry (key_width p) t u 0 0 (omega arith) (omega arith) (at_u ∙ ap (λ (q : ClauseProblem). slot (key_width q) u 0) of) in
            (o.2 ∙ ap (λ (k : ℕ). (Main (after_take k i' x m), [])) is_u, subst (λ (k : ℕ). Tells (Main m) k x) is_u (subst (λ (q : MainView). (t < length q.entries) → Tells (Main q) t x) same (tells s r t) below)),
      )))

  pub may_cancel : (slots id i : ℕ) (me : Seat) (m : MainView) (t : ℕ) → me ≡ (Main m, []) → id ≡ 0 → m.problem ≡ p → t < length m.entries → i ≡ slot (key_width p) t 0
      → Allows (Rule p size) slots id me i (λ n. bit_or n 8) (cancels (step slots i 8 0 none) me)
  may_cancel slots id i me m t is zero_id of below place = subst (λ (z : ℕ). Allows (Rule p size) slots id me z (λ n. bit_or n 8) (cancels (step slots z 8 0 none) me)) (sym place)
      (let i' : ℕ = slot (key_width p) t 0 in as_main me m slots id i' (λ n. bit_or n 8) (cancels (step slots i' 8 0 none)) is zero_id
      (λ s r same. let x : ℕ = get_or s.words i' 0 in let o = subst (λ (q : MainView). (t < length q.entries) → From s i' (bit_or x 8) (after_cancel t i' x) q) same (λ a. (after_cancel t i' x r.main, cancels_at s r t a i' x refl, refl)) below in
      (o.0, o.1, λ u at_u. o.2 ∙ ap (λ (k : ℕ). (Main (after_cancel k i' x m), [])) (same_entry (key_width p) t u 0 0 (omega arith) (omega arith) (at_u ∙ ap (λ (q : ClauseProblem). slot (key_width q) u 0) of)))))

  -- a new worker
  total_end : (f : View → ℕ) (l : List View) (v : View) → total f (l ++ v ∷ []) ≡ total f l + f v
  total_end f [] v = omega arith
  total_end f (x ∷ xs) v = let r = total_end f xs v in omega arith

  enters_at : (s : TableState) (r : Fits p size s) → r.main.made < 64
      → Fits p size (record { words = s.words; homes = s.homes; views = set s.views 0 (left_of_split (Main r.main)) ++ right_of_split (Main r.main) ∷ [] })
  enters_at s r few = let m : MainView = r.main in let m' : MainView = record m { made = m.made + 1 } in let vs : List View = set s.views 0 (Main m') in let new : WorkerView = newcomer m in
      let at : ℕ = length vs in let holder' : ℕ → ℕ = upd r.holder (m.made + 1) at in let fit = r.words in let b = r.board in
      let below = at_less s.views 0 (Main m) r.main_at in let long : at ≡ length s.views = length-set s.views 0 (Main m') in
      record {
        main = m';
        cursor = r.cursor;
        cells = r.cells;
        owner = r.owner;
        holder = holder';
        main_at = front vs (Worker new) 0 (Main m') (set_here s.views 0 (Main m') below);
        words = record { sized = fit.sized; cursor_at = fit.cursor_at; stop_at = fit.stop_at; states = fit.states; keys = fit.keys; next = fit.next };
        board = record { problem = b.problem; sized = b.sized; few = b.few; row = b.row; empty = b.empty; entry = b.entry };
        fits = λ j v e. ⊎_elim
            (λ (a : get_elem? vs j ≡ some v). ⊎_elim
            (λ (x : (j ≡ 0) × (Main m' ≡ v)). subst (λ (u : View). ViewFits p size m' r.cursor r.cells r.owner holder' j u) x.1 (x.0, refl))
            (λ (x : (j ≢ 0) × (get_elem? s.views j ≡ some v)). under j v x.0 (r.fits j v x.1))
            (at_set s.views 0 j (Main m') v a))
            (λ (a : (j ≡ at) × (Worker new ≡ v)). subst (λ (u : View). ViewFits p size m' r.cursor r.cells r.owner holder' j u) a.1
            (record { problem = b.problem; sized = b.sized; named = omega arith; number = omega arith; held = upd_same r.holder (m.made + 1) at ∙ sym a.0; stage = tt; mark = λ _. tt; stop = λ z. absurd (true≢false (sym z)) }))
            (at_end vs (Worker new) v j e);
        counts = let k = r.counts in let k0 = k.reached in let k1 = k.live in let k2 = k.left in let k3 = k.made in
            let d = total_set is_done s.views 0 (Main m) (Main m') r.main_at in let l = total_set is_live s.views 0 (Main m) (Main m') r.main_at in
            let d' = total_end is_done vs (Worker new) in let l' = total_end is_live vs (Worker new) in
            record { reached = omega arith; live = omega arith; left = k.left; made = omega arith; small = k.small };
        begun = r.begun;
        runner = λ t n is bare. let q = runner_stays s r (Main m') t n (r.runner t n is bare) in record { view = q.view; read = q.read; number = q.number; runs = q.runs; at = front vs (Worker new) (r.owner t) (Worker q.view) q.at };
      }
    where
      front : (l : List View) (a : View) (t : ℕ) (e : View) → get_elem? l t ≡ some e → get_elem? (l ++ a ∷ []) t ≡ some e
      front [] a t e k = absurd (some-ne-none e (sym k))
      front (x ∷ xs) a zero e k = k
      front (x ∷ xs) a (suc t) e k = front xs a t e k

      under : (j : ℕ) (v : View) → j ≢ 0 → ViewFits p size r.main r.cursor r.cells r.owner r.holder j v
          → ViewFits p size (record r.main { made = r.main.made + 1 }) r.cursor r.cells r.owner (upd r.holder (r.main.made + 1) (length (set s.views 0 (left_of_split (Main r.main))))) j v
      under j (Main m) ne f = absurd (ne f.0)
      under j (Worker w) ne f = let n = f.number in let k = worker_under r.main (record r.main { made = r.main.made + 1 }) r.cursor r.cells r.cells r.owner r.holder j w (omega arith) (λ e. e) (λ t e a. (e, a, refl)) (λ t n e. e) (λ t b. b) (λ t e. e) f in
          record {
            problem = k.problem;
            sized = k.sized;
            named = k.named;
            number = k.number;
            stage = k.stage;
            stop = k.stop;
            mark = k.mark;
            held = upd_else r.holder (r.main.made + 1) w.number (length (set s.views 0 (left_of_split (Main r.main)))) (λ z. absurd (omega arith)) ∙ f.held;
          }
      under j Spent ne f = tt

  pub may_enter : (id : ℕ) (v : View) (m : MainView) → v ≡ Main m → id ≡ 0 → m.made < 64 → Splits (Rule p size) id v (left_of_split v) (right_of_split v)
  may_enter id v m is zero_id few = subst (λ (z : View × ℕ). Splits (Rule p size) z.1 z.0 (left_of_split z.0) (right_of_split z.0)) (λ k. (sym is k, sym zero_id k))
      (splits p size 0 (Main m) (left_of_split (Main m)) (right_of_split (Main m)) λ s r at. subst (λ (q : MainView). (q.made < 64) → Fits p size (record { words = s.words; homes = s.homes; views = set s.views 0 (left_of_split (Main q)) ++ right_of_split (Main q) ∷ [] })) (main_is s r m at) (enters_at s r) few)

  -- a worker leaves
  leaves_at : (s : TableState) (r : Fits p size s) (other : ℕ) (w : WorkerView) → ((t : ℕ) (read : List (ℕ × ℕ)) → w.stage ≡ Runs t read → ⊥) → other ≢ 0 → get_elem? s.views other ≡ some (Worker w)
      → Fits p size (record { words = s.words; homes = s.homes; views = set (set s.views 0 (Main (after_leave w r.main))) other Spent })
  leaves_at s r other w rests apart at = let m : MainView = r.main in let m' : MainView = after_leave w m in let vs : List View = set s.views 0 (Main m') in let fit = r.words in let b = r.board in
      let below = at_less s.views 0 (Main m) r.main_at in let at' : get_elem? vs other ≡ some (Worker w) = set_else s.views 0 other (Main m') apart ∙ at in
      record {
        main = m';
        cursor = r.cursor;
        cells = r.cells;
        owner = r.owner;
        holder = r.holder;
        main_at = set_else vs other 0 Spent (λ e. apart (sym e)) ∙ set_here s.views 0 (Main m') below;
        words = record { sized = fit.sized; cursor_at = fit.cursor_at; stop_at = fit.stop_at; states = fit.states; keys = fit.keys; next = fit.next };
        board = record { problem = b.problem; sized = b.sized; few = b.few; row = b.row; empty = b.empty; entry = b.entry };
        fits = λ j v e. ⊎_elim
            (λ (x : (j ≡ other) × (Spent ≡ v)). subst (λ (u : View). ViewFits p size m' r.cursor r.cells r.owner r.holder j u) x.1 tt)
            (λ (x : (j ≢ other) × (get_elem? vs j ≡ some v)). ⊎_elim
            (λ (y : (j ≡ 0) × (Main m' ≡ v)). subst (λ (u : View). ViewFits p size m' r.cursor r.cells r.owner r.holder j u) y.1 (y.0, refl))
            (λ (y : (j ≢ 0) × (get_elem? s.views j ≡ some v)). under j v y.0 (r.fits j v y.1))
            (at_set s.views 0 j (Main m') v x.1))
            (at_set vs other j Spent v e);
        counts = let k = r.counts in let k0 = k.reached in let k1 = k.live in let k2 = k.left in let k3 = k.made in let q : ℕ = cond w.done 1 0 in let one : q ≤ 1 = at_most w.done in
            let d = total_set is_done s.views 0 (Main m) (Main m') r.main_at in let l = total_set is_live s.views 0 (Main m) (Main m') r.main_at in
            let d' = total_set is_done vs other (Worker w) Spent at' in let l' = total_set is_live vs other (Worker w) Spent at' in
            record { reached = omega arith; live = omega arith; left = omega arith; made = k.made; small = k.small };
        begun = r.begun;
        runner = λ t n is bare. let q = runner_stays s r (Main m') t n (r.runner t n is bare) in record {
          view = q.view;
          read = q.read;
          number = q.number;
          runs = q.runs;
          at = set_else vs other (r.owner t) Spent (λ e. let same : q.view ≡ w = worker_in q.view w (some-injective (Worker q.view) (Worker w) (sym q.at ∙ ap (λ (k : ℕ). get_elem? vs k) e ∙ at')) in
              rests t q.read (ap (λ (v : WorkerView). v.stage) (sym same) ∙ q.runs)) ∙ q.at;
        };
      }
    where
      at_most : (c : Bool) → cond c 1 0 ≤ 1
      at_most true = omega arith
      at_most false = omega arith

      under : (j : ℕ) (v : View) → j ≢ 0 → ViewFits p size r.main r.cursor r.cells r.owner r.holder j v → ViewFits p size (after_leave w r.main) r.cursor r.cells r.owner r.holder j v
      under j (Main m) ne f = absurd (ne f.0)
      under j (Worker u) ne f = worker_under r.main (after_leave w r.main) r.cursor r.cells r.cells r.owner r.holder j u (omega arith) (λ e. e) (λ t e a. (e, a, refl)) (λ t n e. e) (λ t b. b) (λ t e. e) f
      under j Spent ne f = tt

  pub may_leave : (id other : ℕ) (v u : View) (m : MainView) (w : WorkerView) → v ≡ Main m → u ≡ Worker w → id ≡ 0 → ((t : ℕ) (read : List (ℕ × ℕ)) → w.stage ≡ Runs t read → ⊥) → Joins (Rule p size) id v other u (both_joined v u) Spent
  may_leave id other v u m w is is_w zero_id rests = subst (λ (z : View × View × ℕ). Joins (Rule p size) z.2 z.0 other z.1 (both_joined z.0 z.1) Spent) (λ k. (sym is k, sym is_w k, sym zero_id k))
      (joins p size 0 (Main m) other (Worker w) (both_joined (Main m) (Worker w)) Spent λ s r at apart there. subst (λ (q : MainView). (get_elem? (set s.views 0 (Main (after_leave w q))) other ≡ some (Worker w)) → Fits p size (record { words = s.words; homes = s.homes; views = set (set s.views 0 (Main (after_leave w q))) other Spent }))
      (main_is s r m at) (λ e. leaves_at s r other w rests apart (sym (set_else s.views 0 other (Main (after_leave w r.main)) apart) ∙ e)) there)
