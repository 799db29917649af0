-- The steps of a worker keep the rule.
use Rattle.std.proofs.Common.{◌≡◌, ◌≢◌, ◌⊎◌, inl, inr, ⊎_elim, ℕ, zero, suc, ◌+◌, ◌*◌, ◌%◌, ◌^◌, ◌<◌, ◌≤◌, Bool, cond, true, false, true≢false, ◌||◌, List, [], ◌∷◌, ◌++◌, length, get_or, set, Contains, sym, refl, ap, ◌∙◌, subst, arith, eqb, ltb, ltb-true, eqb-true, eq-eqb}
use Rattle.std.proofs.lemmas.List.{set-get_or}
use Rattle.std.proofs.lemmas.List.Elements.{Contains-append_cases}
use mathlib.Core.Logic.{dite}
use mathlib.Core.Option.{Option, some, none, some-injective, some-ne-none}
use native.Mathlib.Decide.{ℕ_discrete}
use lib.ListN.{get_elem?}
use prog.Atomic.{either}
use Rattle.atomic_table.specs.Table.{step, keeps, stepped, Allows}
use Rattle.atomic_table.proofs.Lists.{at_set, set_else, set_here}
use Rattle.check_table.proofs.Entries.{at_less}
use Rattle.clauses.specs.Problem.{ClauseProblem}
use Rattle.req_keys.specs.Key.{PositionSet}
use Rattle.req_keys.specs.Words.{word_of}
use Rattle.check_table.specs.Places.{key_width, slot, code, answer_code, has_mark, stop_code, IsKeyOf, IsVerdictOf}
use Rattle.check_table.specs.Views.{noted, after_draw, after_claim, after_read, after_answer, after_stop_look, after_mark_look, stage_claimed, stage_read}
use Rattle.check_table.specs.Rule.{TableState, MarkStands, CountsStand, IsBegun, Rule, total, is_live, is_done, marked}
use Rattle.check_table.specs.Found.{ticket_in}
use Rattle.check_table.specs.Steps.{Seat, draws, claims, reads, answers, looks_at_stop, looks_at_mark, Claimable, KeyWord, OwnRun}
use Rattle.check_table.proofs.Fits.{WordsFit, EntryFits, BoardFits, RunFits, StageFits, WorkerFits, ViewFits, Fits, allowed}
use Rattle.check_table.proofs.Keys.{key_from_words}
use Rattle.req_keys.specs.declared.verdict.Cell.{Cell}
use Rattle.req_keys.specs.declared.verdict.Cell.TheVariants.{Empty, Posted, Running, Mine, GivenUp, Answered}
use Rattle.req_keys.specs.declared.verdict.Verdict.{Verdict}
use Rattle.check_table.specs.declared.view.KnownEntry.{KnownEntry}
use Rattle.check_table.specs.declared.view.MainView.{MainView}
use Rattle.check_table.specs.declared.view.WorkerView.{WorkerView}
use Rattle.check_table.specs.declared.view.Stage.{Stage}
use Rattle.check_table.specs.declared.view.Stage.TheVariants.{Idle, Holds, Runs}
use Rattle.check_table.specs.declared.view.View.{View}
use Rattle.check_table.specs.declared.view.View.TheVariants.{Main, Worker, Spent}
use Rattle.check_table.proofs.Slots.{same_word}
use Rattle.check_table.proofs.Codes.{upd, upd_same, upd_else, is_posted, sees_mark}
use Rattle.check_table.proofs.Words.{cursor_moves, state_moves}

pub total_set : (f : View → ℕ) (l : List View) (i : ℕ) (v w : View) → get_elem? l i ≡ some v → total f (set l i w) + f v ≡ total f l + f w
total_set f [] i v w e = absurd (some-ne-none v (sym e))
total_set f (x ∷ xs) zero v w e = let is : f x ≡ f v = ap f (some-injective x v e) in omega arith
total_set f (x ∷ xs) (suc i) v w e = let r = total_set f xs i v w e in omega arith

pub done_le : (l : List View) → total is_done l ≤ total is_live l
done_le [] = omega arith
done_le (Main m ∷ xs) = let r = done_le xs in omega arith
done_le (Worker w ∷ xs) = let r = done_le xs in let one : cond w.done 1 0 ≤ 1 = small w.done in let d : ℕ = cond w.done 1 0 in omega arith
  where
    small : (b : Bool) → cond b 1 0 ≤ 1
    small true = omega arith
    small false = omega arith
done_le (Spent ∷ xs) = let r = done_le xs in omega arith

pub worker_in : (v w : WorkerView) → Worker v ≡ Worker w → v ≡ w
worker_in v w e = cc

idle_runs : (t : ℕ) (read : List (ℕ × ℕ)) (g : Stage) → g ≡ Idle → g ≡ Runs t read → ⊥
idle_runs t read g a b = let z : Idle ≡ Runs t read = sym a ∙ b in cc

holds_runs : (u t : ℕ) (read : List (ℕ × ℕ)) (g : Stage) → g ≡ Holds u → g ≡ Runs t read → ⊥
holds_runs u t read g a b = let z : Holds u ≡ Runs t read = sym a ∙ b in cc

runs_same : (u t : ℕ) (had read : List (ℕ × ℕ)) (g : Stage) → g ≡ Runs u had → g ≡ Runs t read → u ≡ t
runs_same u t had read g a b = let z : Runs u had ≡ Runs t read = sym a ∙ b in cc

-- where the main view stands no worker does
pub not_main : (m : MainView) (w : WorkerView) → some (Main m) ≡ some (Worker w) → ⊥
not_main m w e = let z : is_live (Main m) ≡ is_live (Worker w) = ap is_live (some-injective (Main m) (Worker w) e) in omega arith

module _ (p : ClauseProblem) (size : ℕ) where
  stage_stays : (main : MainView) (cursor cursor' : ℕ) (cells cells' : ℕ → Cell) (owner owner' : ℕ → ℕ) (id number : ℕ) (stage : Stage)
      → cursor ≤ cursor' → ((t : ℕ) → t < cursor → owner t ≡ id → (owner' t ≡ id) × (cells' t ≡ cells t))
      → StageFits main cursor cells owner id number stage → StageFits main cursor' cells' owner' id number stage
  stage_stays main cursor cursor' cells cells' owner owner' id number Idle up same f = tt
  stage_stays main cursor cursor' cells cells' owner owner' id number (Holds t) up same f = let less = f.0 in let k = same t f.0 f.1 in (omega arith, k.0, λ b. f.2 (subst IsBegun k.1 b))
  stage_stays main cursor cursor' cells cells' owner owner' id number (Runs t read) up same f = let less = f.0 in let k = same t f.0 f.1 in
      (omega arith, k.0, record { running = k.1 ∙ f.2.running; entry = f.2.entry; at = f.2.at; read_is = f.2.read_is })

  pub view_stays : (main : MainView) (cursor cursor' : ℕ) (cells cells' : ℕ → Cell) (owner owner' holder : ℕ → ℕ) (id : ℕ) (v : View)
      → cursor ≤ cursor' → ((t : ℕ) → t < cursor → owner t ≡ id → (owner' t ≡ id) × (cells' t ≡ cells t))
      → ViewFits p size main cursor cells owner holder id v → ViewFits p size main cursor' cells' owner' holder id v
  view_stays main cursor cursor' cells cells' owner owner' holder id (Main m) up same f = f
  view_stays main cursor cursor' cells cells' owner owner' holder id (Worker w) up same f = record {
    problem = f.problem;
    sized = f.sized;
    named = f.named;
    number = f.number;
    held = f.held;
    stop = f.stop;
    mark = f.mark;
    stage = stage_stays main cursor cursor' cells cells' owner owner' id w.number w.stage up same f.stage;
  }
  view_stays main cursor cursor' cells cells' owner owner' holder id Spent up same f = tt

  module _ (s : TableState) (r : Fits p size s) (id : ℕ) (w : WorkerView) (at : get_elem? s.views id ≡ some (Worker w)) where
    apart : zero ≢ id
    apart e = not_main r.main w (sym r.main_at ∙ ap (λ (k : ℕ). get_elem? s.views k) e ∙ at)

    -- who runs an entry after the step: this seat, or who ran it before
    abbrev RunBy : WorkerView → (ℕ → Cell) → (ℕ → ℕ) → ℕ → ℕ → Type 0
    RunBy w' cells' owner' t m = ((owner' t ≡ id) × (w'.number ≡ m) × ((read : List (ℕ × ℕ)) × (w'.stage ≡ Runs t read))) ⊎ ((owner' t ≢ id) × (owner' t ≡ r.owner t) × (r.cells t ≡ Running m))

    -- what a worker's step owes
    pub worker_moves : (i n : ℕ) (w' : WorkerView) (cursor' : ℕ) (cells' : ℕ → Cell) (owner' : ℕ → ℕ)
        → r.cursor ≤ cursor'
        → ((j : ℕ) → j ≢ id → (t : ℕ) → t < r.cursor → r.owner t ≡ j → (owner' t ≡ j) × (cells' t ≡ r.cells t))
        → WordsFit p size (set s.words i n) r.main cursor' cells'
        → BoardFits p size r.main cells'
        → WorkerFits p size r.main cursor' cells' owner' r.holder id w'
        → CountsStand size (set s.views id (Worker w')) r.main cursor'
        → ((t : ℕ) → IsBegun (cells' t) → t < cursor')
        → ((t m : ℕ) → cells' t ≡ Running m → marked r.main.entries t ≡ false → RunBy w' cells' owner' t m)
        → Fits p size (stepped s i n id [] (Worker w') keeps)
    worker_moves i n w' cursor' cells' owner' up others words board mine counts begun runs = record {
      main = r.main;
      cursor = cursor';
      cells = cells';
      owner = owner';
      holder = r.holder;
      main_at = set_else s.views id zero (Worker w') apart ∙ r.main_at;
      words = words;
      board = board;
      fits = λ j v e. ⊎_elim
          (λ (x : (j ≡ id) × (Worker w' ≡ v)). subst (λ (y : ℕ × View). ViewFits p size r.main cursor' cells' owner' r.holder y.0 y.1) (λ k. (sym x.0 k, x.1 k)) mine)
          (λ (x : (j ≢ id) × (get_elem? s.views j ≡ some v)). view_stays r.main r.cursor cursor' r.cells cells' r.owner owner' r.holder j v up (others j x.0) (r.fits j v x.1))
          (at_set s.views id j (Worker w') v e);
      counts = counts;
      begun = begun;
      runner = λ t m is bare. ⊎_elim
          (λ (a : (owner' t ≡ id) × (w'.number ≡ m) × ((read : List (ℕ × ℕ)) × (w'.stage ≡ Runs t read))). record {
            view = w';
            read = a.2.0;
            number = a.1;
            runs = a.2.1;
            at = ap (λ (k : ℕ). get_elem? (set s.views id (Worker w')) k) a.0 ∙ set_here s.views id (Worker w') (at_less s.views id (Worker w) at);
          })
          (λ (a : (owner' t ≢ id) × (owner' t ≡ r.owner t) × (r.cells t ≡ Running m)). let q = r.runner t m a.2 bare in record {
            view = q.view;
            read = q.read;
            number = q.number;
            runs = q.runs;
            at = set_else s.views id (owner' t) (Worker w') a.0 ∙ ap (λ (k : ℕ). get_elem? s.views k) a.1 ∙ q.at;
          })
          (runs t m is bare);
    }

    -- the seat's own entry, if it runs one without a mark
    own_run : (t m : ℕ) → r.cells t ≡ Running m → marked r.main.entries t ≡ false → r.owner t ≡ id → (w.number ≡ m) × ((read : List (ℕ × ℕ)) × (w.stage ≡ Runs t read))
    own_run t m is bare owns = let q = r.runner t m is bare in
        let same : q.view ≡ w = worker_in q.view w (some-injective (Worker q.view) (Worker w) (sym q.at ∙ ap (λ (k : ℕ). get_elem? s.views k) owns ∙ at)) in
        (ap (λ (v : WorkerView). v.number) (sym same) ∙ q.number, (q.read, ap (λ (v : WorkerView). v.stage) (sym same) ∙ q.runs))

    -- the runners of a step that changes no cell and no owner
    same_runs : (w' : WorkerView) → ((t m : ℕ) → r.cells t ≡ Running m → marked r.main.entries t ≡ false → (w.number ≡ m) × ((read : List (ℕ × ℕ)) × (w.stage ≡ Runs t read)) → (w'.number ≡ m) × ((read : List (ℕ × ℕ)) × (w'.stage ≡ Runs t read)))
        → (t m : ℕ) → r.cells t ≡ Running m → marked r.main.entries t ≡ false → RunBy w' r.cells r.owner t m
    same_runs w' go t m is bare = dite (ℕ_discrete (r.owner t) id)
        (λ e. let k = go t m is bare (own_run t m is bare e) in inl (e, k.0, k.1))
        (λ ne. inr (ne, refl, is))

    -- it met NoMore in neither view
    pub counts_stay : (w' : WorkerView) → w'.done ≡ w.done → CountsStand size (set s.views id (Worker w')) r.main r.cursor
    counts_stay w' same = let k = r.counts in let d = total_set is_done s.views id (Worker w) (Worker w') at in let l = total_set is_live s.views id (Worker w) (Worker w') at in
        let a : ℕ = cond w'.done 1 0 in let b : ℕ = cond w.done 1 0 in let ab : a ≡ b = ap (λ (x : Bool). cond x 1 0) same in
        let k0 = k.reached in let k1 = k.live in record {
          reached = omega arith;
          live = omega arith;
          left = k.left;
          made = k.made;
          small = k.small;
        }

    abbrev mine : WorkerFits p size r.main r.cursor r.cells r.owner r.holder id w
    mine = r.fits id (Worker w) at

    -- a look changes nothing but the worker's own view
    pub worker_looks : (i : ℕ) (w' : WorkerView) → w'.done ≡ w.done → WorkerFits p size r.main r.cursor r.cells r.owner r.holder id w'
        → ((t m : ℕ) → r.cells t ≡ Running m → marked r.main.entries t ≡ false → (w.number ≡ m) × ((read : List (ℕ × ℕ)) × (w.stage ≡ Runs t read)) → (w'.number ≡ m) × ((read : List (ℕ × ℕ)) × (w'.stage ≡ Runs t read)))
        → Fits p size (stepped s i (get_or s.words i 0) id [] (Worker w') keeps)
    worker_looks i w' same fits go = worker_moves i (get_or s.words i 0) w' r.cursor r.cells r.owner (omega arith) (λ j ne t less o. (o, refl))
        (subst (λ (l : List ℕ). WordsFit p size l r.main r.cursor r.cells) (sym (set-get_or s.words i 0)) r.words) r.board fits (counts_stay w' same) r.begun (same_runs w' go)

    -- Draw
    draws_at : (b : Bool) → ltb r.cursor w.size ≡ b → w.done ≡ false → (t : Stage) → w.stage ≡ t → t ≡ Idle
        → Fits p size (stepped s 0 (r.cursor + 1) id [] (Worker (record w { stage = cond b (Holds r.cursor) w.stage; done = cond b w.done true; trace = noted 0 r.cursor w.trace })) keeps)
    draws_at true less not_done t is idle = let n : ℕ = r.cursor in let below : n < w.size = ltb-true n w.size less in let same = mine.sized in let k = r.counts in
        let w' : WorkerView = record w { stage = Holds n; trace = noted 0 n w.trace } in
        let c = counts_stay w' refl in let owner' : ℕ → ℕ = upd r.owner n id in
        worker_moves 0 (n + 1) w' (n + 1) r.cells owner' (omega arith)
        (λ j ne u before o. (upd_else r.owner n u id (omega arith) ∙ o, refl))
        (cursor_moves p size s.words r.main r.cursor r.cells r.words (n + 1)) r.board
        (record { problem = mine.problem; sized = mine.sized; named = mine.named; number = mine.number; held = mine.held; stop = mine.stop; mark = λ _. tt; stage = (omega arith, upd_same r.owner n id, λ b. let early = r.begun n b in omega arith) })
        (record { reached = omega arith; live = c.live; left = c.left; made = c.made; small = c.small })
        (λ u b. let early = r.begun u b in omega arith)
        (λ u m q bare. let early = r.begun u (subst IsBegun (sym q) tt) in let else : owner' u ≡ r.owner u = upd_else r.owner n u id (omega arith) in
        dite (ℕ_discrete (r.owner u) id) (λ e. let o = own_run u m q bare e in absurd (idle_runs u o.1.0 w.stage (is ∙ idle) o.1.1)) (λ ne. inr ((λ z. ne (sym else ∙ z)), else, q)))
    draws_at false more not_done t is idle = let n : ℕ = r.cursor in
        let w' : WorkerView = record w { done = true; trace = noted 0 n w.trace } in
        let k = r.counts in let d = total_set is_done s.views id (Worker w) (Worker w') at in let l = total_set is_live s.views id (Worker w) (Worker w') at in
        let b : ℕ = cond w.done 1 0 in let none_yet : b ≡ 0 = ap (λ (x : Bool). cond x 1 0) not_done in
        let k0 = k.reached in let k1 = k.live in
        worker_moves 0 (n + 1) w' (n + 1) r.cells r.owner (omega arith)
        (λ j ne u before o. (o, refl))
        (cursor_moves p size s.words r.main r.cursor r.cells r.words (n + 1)) r.board
        (record {
          problem = mine.problem;
          sized = mine.sized;
          named = mine.named;
          number = mine.number;
          held = mine.held;
          stop = mine.stop;
          mark = mine.mark;
          stage = subst (λ (x : Stage). StageFits r.main (n + 1) r.cells r.owner id w.number x) (sym (is ∙ idle)) tt;
        })
        (record { reached = omega arith; live = omega arith; left = k.left; made = k.made; small = k.small })
        (λ u b. let early = r.begun u b in omega arith)
        (same_runs w' (λ u m q bare o. absurd (idle_runs u o.1.0 w.stage (is ∙ idle) o.1.1)))

    -- Claim: a failed one is a look
    abbrev hit_cells : (t : ℕ) → ℕ → Cell
    hit_cells t = upd r.cells t (Running w.number)

    -- an entry that is there
    pub there : (t : ℕ) → r.cells t ≢ Empty → (e : KnownEntry) × (get_elem? r.main.entries t ≡ some e)
    there t some_cell = by_case (get_elem? r.main.entries t) refl
      where
        past : (l : List KnownEntry) (k : ℕ) → get_elem? l k ≡ none → length l ≤ k
        past [] k e = omega arith
        past (x ∷ xs) zero e = absurd (some-ne-none x e)
        past (x ∷ xs) (suc k) e = let q = past xs k e in omega arith

        by_case : (o : Option KnownEntry) → get_elem? r.main.entries t ≡ o → (e : KnownEntry) × (get_elem? r.main.entries t ≡ some e)
        by_case none is = absurd (some_cell (r.board.empty t (past r.main.entries t is)))
        by_case (some e) is = (e, is)

    -- the cell of one entry changes to another that isn't Empty
    pub board_moves : (t : ℕ) (c : Cell) → ((e : KnownEntry) → get_elem? r.main.entries t ≡ some e → EntryFits p e c) → r.cells t ≢ Empty → BoardFits p size r.main (upd r.cells t c)
    board_moves t c fits not_empty = let b = r.board in record {
      problem = b.problem;
      sized = b.sized;
      few = b.few;
      row = b.row;
      empty = λ u past. upd_else r.cells t u c (λ e. not_empty (subst (λ (k : ℕ). r.cells k ≡ Empty) e (b.empty u past))) ∙ b.empty u past;
      entry = λ u e at_u. dite (ℕ_discrete u t)
          (λ is. subst (λ (x : Cell). EntryFits p e x) (sym (ap (upd r.cells t c) is ∙ upd_same r.cells t c)) (fits e (ap (λ (k : ℕ). get_elem? r.main.entries k) (sym is) ∙ at_u)))
          (λ ne. subst (λ (x : Cell). EntryFits p e x) (sym (upd_else r.cells t u c ne)) (b.entry u e at_u));
    }

    -- the state of the entry whose ticket the seat has changes
    pub state_by : (t : ℕ) (c : Cell) (w' : WorkerView) → t < size → r.owner t ≡ id → r.cells t ≢ Empty → w'.done ≡ w.done → marked r.main.entries t ≡ false
        → ((e : KnownEntry) → get_elem? r.main.entries t ≡ some e → EntryFits p e c)
        → WorkerFits p size r.main r.cursor (upd r.cells t c) r.owner r.holder id w'
        → t < r.cursor → ((m : ℕ) → c ≡ Running m → (w'.number ≡ m) × ((read : List (ℕ × ℕ)) × (w'.stage ≡ Runs t read)))
        → ((u : ℕ) (read : List (ℕ × ℕ)) → u ≢ t → w.stage ≡ Runs u read → ⊥)
        → Fits p size (stepped s (slot (key_width p) t 0) (code c false) id [] (Worker w') keeps)
    state_by t c w' within owns not_empty same unmarked fits mine' drawn now_runs no_other = worker_moves (slot (key_width p) t 0) (code c false) w' r.cursor (upd r.cells t c) r.owner (omega arith)
        (λ j ne u before o. (o, upd_else r.cells t u c (λ e. ne (sym o ∙ ap r.owner e ∙ owns))))
        (subst (λ (m : Bool). WordsFit p size (set s.words (slot (key_width p) t 0) (code c m)) r.main r.cursor (upd r.cells t c)) unmarked (state_moves p size s.words r.main r.cursor r.cells r.words r.board.row t c within))
        (board_moves t c fits not_empty) mine' (counts_stay w' same)
        (λ u b. dite (ℕ_discrete u t) (λ e. omega arith) (λ ne. r.begun u (subst IsBegun (upd_else r.cells t u c ne) b)))
        (λ u m q bare. dite (ℕ_discrete u t)
        (λ e. let k = now_runs m (sym (upd_same r.cells t c) ∙ ap (upd r.cells t c) (sym e) ∙ q) in inl (ap r.owner e ∙ owns, k.0, (k.1.0, k.1.1 ∙ ap (λ (z : ℕ). Runs z k.1.0) (sym e))))
        (λ ne. let was = sym (upd_else r.cells t u c ne) ∙ q in dite (ℕ_discrete (r.owner u) id) (λ e. let o = own_run u m was bare e in absurd (no_other u o.1.0 ne o.1.1)) (λ apart'. inr (apart', refl, was))))

    held_by : (t : ℕ) → w.stage ≡ Holds t → (t < r.cursor) × (r.owner t ≡ id) × (IsBegun (r.cells t) → ⊥)
    held_by t is = subst (λ (g : Stage). StageFits r.main r.cursor r.cells r.owner id w.number g) is mine.stage

    run_by : (t : ℕ) (read : List (ℕ × ℕ)) → w.stage ≡ Runs t read → (t < r.cursor) × (r.owner t ≡ id) × RunFits r.main r.cells w.number t read
    run_by t read is = subst (λ (g : Stage). StageFits r.main r.cursor r.cells r.owner id w.number g) is mine.stage

    -- a posted entry begins to run
    run_fits : (e : KnownEntry) → EntryFits p e Posted → EntryFits p e (Running w.number)
    run_fits e f = record {
      key = f.key;
      there = λ z. cc;
      mine = ((λ z. absurd (cc)), λ m. let z : Posted ≡ Mine = f.mine.1 m in absurd (cc));
      right = λ v z. absurd (cc);
      kept = λ v q. let z : Posted ≡ Answered v = f.kept v q in absurd (cc);
      worker = λ n z. let same : w.number ≡ n = cc in let few = mine.number in let most = r.counts.made in omega arith;
    }

    claims_at : (t : ℕ) → w.stage ≡ Holds t → t < size → (x : ℕ) → get_or s.words (slot (key_width p) t 0) 0 ≡ x → (b b0 : Bool) → eqb x 1 ≡ b → (place : ℕ)
        → Fits p size (stepped s (slot (key_width p) t 0) (either b (2 + 256 * w.number) x) id [] (Worker (record w { stage = stage_claimed b b0 (Holds t); saw_mark = cond b false w.saw_mark; trace = noted place x w.trace })) keeps)
    claims_at t is within x met true b0 hit place =
        let one : x ≡ 1 = eqb-true x 1 hit in
        let was = is_posted (r.cells t) (marked r.main.entries t) (sym (r.words.states t within) ∙ met ∙ one) in
        let have = held_by t is in
        let not_empty : r.cells t ≢ Empty = λ e. let z : Posted ≡ Empty = sym was.0 ∙ e in cc in
        let found = there t not_empty in
        let w' : WorkerView = record w { stage = Runs t []; saw_mark = false; trace = noted place x w.trace } in
        state_by t (Running w.number) w' within have.1 not_empty refl was.1
        (λ e at_e. run_fits e (subst (λ (c : Cell). EntryFits p e c) was.0 (r.board.entry t e at_e)))
        (record {
          problem = mine.problem;
          sized = mine.sized;
          named = mine.named;
          number = mine.number;
          held = mine.held;
          stop = mine.stop;
          mark = λ e. absurd (true≢false (sym e));
          stage = (have.0, have.1, record { running = upd_same r.cells t (Running w.number); entry = found.0; at = found.1; read_is = λ j n c. let less = c.1 in absurd (omega arith) });
        })
        have.0 (λ m e. let same : w.number ≡ m = cc in (same, ([], refl))) (λ u read ne e. holds_runs t u read w.stage is e)
    claims_at t is within x met false b0 miss place =
        let w' : WorkerView = record w { stage = cond b0 (Holds t) Idle; trace = noted place x w.trace } in
        subst (λ (y : ℕ). Fits p size (stepped s (slot (key_width p) t 0) y id [] (Worker w') keeps)) met
        (worker_looks (slot (key_width p) t 0) w' refl
        (record { problem = mine.problem; sized = mine.sized; named = mine.named; number = mine.number; held = mine.held; stop = mine.stop; mark = λ _. bare_kept b0; stage = kept b0 })
        (λ u m q bare o. absurd (holds_runs t u o.1.0 w.stage is o.1.1)))
      where
        bare_kept : (b0 : Bool) → MarkStands r.main.entries (cond b0 (Holds t) Idle)
        bare_kept true = tt
        bare_kept false = tt

        kept : (b0 : Bool) → StageFits r.main r.cursor r.cells r.owner id w.number (cond b0 (Holds t) Idle)
        kept true = held_by t is
        kept false = tt

    -- Read
    only_one : (j n k m : ℕ) → Contains {X = ℕ × ℕ} ((k, m) ∷ []) (j, n) → (j ≡ k) × (n ≡ m)
    only_one j n k m c = at_zero c.0 c.1 c.2
      where
        at_zero : (i : ℕ) → i < 1 → get_or {A = ℕ × ℕ} ((k, m) ∷ []) i (j, n) ≡ (j, n) → (j ≡ k) × (n ≡ m)
        at_zero zero less e = (ap (λ (q : ℕ × ℕ). q.0) (sym e), ap (λ (q : ℕ × ℕ). q.1) (sym e))
        at_zero (suc i) less e = absurd (omega arith)

    reads_at : (t : ℕ) (read : List (ℕ × ℕ)) → w.stage ≡ Runs t read → (j : ℕ) → j < key_width p → (place : ℕ)
        → let x : ℕ = get_or s.words (slot (key_width p) t (1 + j)) 0 in Fits p size (stepped s (slot (key_width p) t (1 + j)) x id [] (Worker (record w { stage = Runs t (read ++ (j, x) ∷ []); trace = noted place x w.trace })) keeps)
    reads_at t read is j small place =
        let x : ℕ = get_or s.words (slot (key_width p) t (1 + j)) 0 in
        let have = run_by t read is in let f = have.2 in
        let right : x ≡ word_of f.entry.key j = r.words.keys t j f.entry f.at small in
        worker_looks (slot (key_width p) t (1 + j)) (record w { stage = Runs t (read ++ (j, x) ∷ []); trace = noted place x w.trace }) refl
        (record {
          problem = mine.problem;
          sized = mine.sized;
          named = mine.named;
          number = mine.number;
          held = mine.held;
          stop = mine.stop;
          mark = λ e. subst (λ (g : Stage). MarkStands r.main.entries g) is (mine.mark e);
          stage = (
            have.0,
            have.1,
            record {
              running = f.running;
              entry = f.entry;
              at = f.at;
              read_is = λ i n c. ⊎_elim (λ (a : Contains {X = ℕ × ℕ} read (i, n)). f.read_is i n a)
                  (λ (a : Contains {X = ℕ × ℕ} ((j, x) ∷ []) (i, n)). let o = only_one i n j x a in o.1 ∙ right ∙ ap (λ (k : ℕ). word_of f.entry.key k) (sym o.0))
                  (Contains-append_cases read ((j, x) ∷ []) (i, n) c);
            },
          );
        })
        (λ u m q bare o. (o.0, (read ++ (j, x) ∷ [], ap (λ (z : ℕ). Runs z (read ++ (j, x) ∷ [])) (runs_same t u read o.1.0 w.stage is o.1.1))))

    -- the key that was read whole is the entry's
    whole_key : (t : ℕ) (read : List (ℕ × ℕ)) (f : RunFits r.main r.cells w.number t read) (key : PositionSet) → IsKeyOf p key → ((j : ℕ) → j < key_width p → Contains read (j, word_of key j)) → key ≡ f.entry.key
    whole_key t read f key over all = let e = r.board.entry t f.entry f.at in
        key_from_words p key f.entry.key over e.key (λ j less. f.read_is j (word_of key j) (all j less))

    -- Answer and GiveUp: the cell becomes c, or stays where it isn't Running with this number without a mark
    ends_at : (t : ℕ) (read : List (ℕ × ℕ)) → w.stage ≡ Runs t read → t < size → (c : Cell)
        → ((f : RunFits r.main r.cells w.number t read) (e : KnownEntry) → f.entry ≡ e → EntryFits p e (Running w.number) → EntryFits p e c)
        → ((m : ℕ) → c ≡ Running m → ⊥)
        → (x : ℕ) → get_or s.words (slot (key_width p) t 0) 0 ≡ x → (b : Bool) → eqb x (2 + 256 * w.number) ≡ b → (place : ℕ)
        → Fits p size (stepped s (slot (key_width p) t 0) (either b (code c false) x) id [] (Worker (record w { stage = Idle; saw_mark = false; trace = noted place x w.trace })) keeps)
    ends_at t read is within c fits ended x met true hit place =
        let have = run_by t read is in let f = have.2 in
        let not_empty : r.cells t ≢ Empty = λ e. let z : Running w.number ≡ Empty = sym f.running ∙ e in cc in
        let same_code : code (Running w.number) (marked r.main.entries t) ≡ 2 + 256 * w.number = ap (λ (k : Cell). code k (marked r.main.entries t)) (sym f.running) ∙ sym (r.words.states t within) ∙ met ∙ eqb-true x (2 + 256 * w.number) hit in
        state_by t c (record w { stage = Idle; saw_mark = false; trace = noted place x w.trace }) within have.1 not_empty refl (unmarked (marked r.main.entries t) same_code)
        (λ e at_e. fits f e (some-injective f.entry e (sym f.at ∙ at_e)) (subst (λ (k : Cell). EntryFits p e k) f.running (r.board.entry t e at_e)))
        (record { problem = mine.problem; sized = mine.sized; named = mine.named; number = mine.number; held = mine.held; stop = mine.stop; mark = λ _. tt; stage = tt })
        have.0 (λ m e. absurd (ended m e)) (λ u had ne e. ne (sym (runs_same t u read had w.stage is e)))
      where
        unmarked : (m : Bool) → code (Running w.number) m ≡ 2 + 256 * w.number → m ≡ false
        unmarked true e = absurd (omega arith)
        unmarked false e = refl
    ends_at t read is within c fits ended x met false miss place =
        subst (λ (y : ℕ). Fits p size (stepped s (slot (key_width p) t 0) y id [] (Worker (record w { stage = Idle; saw_mark = false; trace = noted place x w.trace })) keeps)) met
        (worker_looks (slot (key_width p) t 0) (record w { stage = Idle; saw_mark = false; trace = noted place x w.trace }) refl
        (record { problem = mine.problem; sized = mine.sized; named = mine.named; number = mine.number; held = mine.held; stop = mine.stop; mark = λ _. tt; stage = tt })
        (λ u m q bare o. let same = runs_same t u read o.1.0 w.stage is o.1.1 in
        let bare_t : marked r.main.entries t ≡ false = ap (λ (k : ℕ). marked r.main.entries k) same ∙ bare in let f = (run_by t read is).2 in
        let hit : x ≡ 2 + 256 * w.number = sym met ∙ r.words.states t within ∙ (λ k. code (f.running k) (bare_t k)) in absurd (true≢false (sym (eq-eqb x (2 + 256 * w.number) hit) ∙ miss))))

    answered : (v : Verdict) (e : KnownEntry) → EntryFits p e (Running w.number) → IsVerdictOf p e.key v → EntryFits p e (Answered v)
    answered v e q is_right = record {
      key = q.key;
      there = λ z. cc;
      mine = ((λ z. absurd (cc)), λ m. let z : Running w.number ≡ Mine = q.mine.1 m in absurd (cc));
      right = λ u z. let same : v ≡ u = cc in subst (λ (x : Verdict). IsVerdictOf p e.key x) same is_right;
      kept = λ u k. let z : Running w.number ≡ Answered u = q.kept u k in absurd (cc);
      worker = λ n z. absurd (cc);
    }

    given_up : (e : KnownEntry) → EntryFits p e (Running w.number) → EntryFits p e GivenUp
    given_up e q = record {
      key = q.key;
      there = λ z. cc;
      mine = ((λ z. absurd (cc)), λ m. let z : Running w.number ≡ Mine = q.mine.1 m in absurd (cc));
      right = λ u z. absurd (cc);
      kept = λ u k. let z : Running w.number ≡ Answered u = q.kept u k in absurd (cc);
      worker = λ n z. absurd (cc);
    }

    answers_at : (t : ℕ) (read : List (ℕ × ℕ)) → w.stage ≡ Runs t read → t < size → (v : Verdict) (key : PositionSet) → IsKeyOf p key → ((j : ℕ) → j < key_width p → Contains read (j, word_of key j)) → IsVerdictOf p key v
        → (x : ℕ) → get_or s.words (slot (key_width p) t 0) 0 ≡ x → (b : Bool) → eqb x (2 + 256 * w.number) ≡ b → (place : ℕ)
        → Fits p size (stepped s (slot (key_width p) t 0) (either b (answer_code v) x) id [] (Worker (record w { stage = Idle; saw_mark = false; trace = noted place x w.trace })) keeps)
    answers_at t read is within v key over all right x met b hit place = ends_at t read is within (Answered v)
        (λ f e same q. answered v e q (subst (λ (k : PositionSet). IsVerdictOf p k v) (whole_key t read f key over all ∙ ap (λ (y : KnownEntry). y.key) same) right)) (λ m e. cc) x met b hit place

    -- what the state word of the entry that the seat runs can be
    own_word : (t : ℕ) (read : List (ℕ × ℕ)) → w.stage ≡ Runs t read → t < size → OwnRun (Worker w) (get_or s.words (slot (key_width p) t 0) 0)
    own_word t read is within = (marked r.main.entries t, r.words.states t within ∙ ap (λ (c : Cell). code c (marked r.main.entries t)) (run_by t read is).2.running)

    -- and that of an entry whose ticket it holds
    claimable : (t : ℕ) → w.stage ≡ Holds t → t < size → Claimable (get_or s.words (slot (key_width p) t 0) 0)
    claimable t is within = (r.cells t, marked r.main.entries t, r.words.states t within, (held_by t is).2)

    -- a word of a key
    key_word : (t : ℕ) (read : List (ℕ × ℕ)) (j : ℕ) → w.stage ≡ Runs t read → w.problem ≡ p → j < key_width p → KeyWord (Worker w) j (get_or s.words (slot (key_width p) t (1 + j)) 0)
    key_word t read j is of small = let f = (run_by t read is).2 in let e = r.board.entry t f.entry f.at in
        (f.entry.key, subst (λ (q : ClauseProblem). IsKeyOf q f.entry.key) (sym of) e.key, r.words.keys t j f.entry f.at small)

    -- a look at the mark of the entry that the seat runs
    mark_looks_at : (t : ℕ) (read : List (ℕ × ℕ)) → w.stage ≡ Runs t read → t < size → (place : ℕ)
        → let x : ℕ = get_or s.words (slot (key_width p) t 0) 0 in Fits p size (stepped s (slot (key_width p) t 0) x id [] (Worker (record w { saw_mark = w.saw_mark || has_mark x; trace = noted place x w.trace })) keeps)
    mark_looks_at t read is within place = let x : ℕ = get_or s.words (slot (key_width p) t 0) 0 in
        worker_looks (slot (key_width p) t 0) (record w { saw_mark = w.saw_mark || has_mark x; trace = noted place x w.trace }) refl
        (record {
          problem = mine.problem;
          sized = mine.sized;
          named = mine.named;
          number = mine.number;
          held = mine.held;
          stage = mine.stage;
          stop = mine.stop;
          mark = λ e. subst (λ (g : Stage). MarkStands r.main.entries g) (sym is) (saw w.saw_mark refl (sees_mark (r.cells t) (marked r.main.entries t) x (sym (r.words.states t within))) e);
        })
        (λ u m q bare o. o)
      where
        saw : (a : Bool) → w.saw_mark ≡ a → has_mark (get_or s.words (slot (key_width p) t 0) 0) ≡ marked r.main.entries t → (a || has_mark (get_or s.words (slot (key_width p) t 0) 0)) ≡ true → marked r.main.entries t ≡ true
        saw true was met e = subst (λ (g : Stage). MarkStands r.main.entries g) is (mine.mark was)
        saw false was met e = sym met ∙ e

    -- the stop word is 0 or 1
    stop_word : (get_or s.words 1 0 ≡ 0) ⊎ (get_or s.words 1 0 ≡ 1)
    stop_word = by r.main.stopped r.words.stop_at
      where
        by : (b : Bool) → get_or s.words 1 0 ≡ stop_code b → (get_or s.words 1 0 ≡ 0) ⊎ (get_or s.words 1 0 ≡ 1)
        by true e = inr e
        by false e = inl e

    -- a look at the stop word
    stop_looks_at : (place : ℕ) → let x : ℕ = get_or s.words 1 0 in Fits p size (stepped s 1 x id [] (Worker (record w { saw_stop = w.saw_stop || eqb x 1; trace = noted place x w.trace })) keeps)
    stop_looks_at place = let x : ℕ = get_or s.words 1 0 in
        worker_looks 1 (record w { saw_stop = w.saw_stop || eqb x 1; trace = noted place x w.trace }) refl
        (record { problem = mine.problem; sized = mine.sized; named = mine.named; number = mine.number; held = mine.held; stage = mine.stage; mark = mine.mark; stop = seen w.saw_stop (eqb x 1) refl mine.stop }) (λ t m q bare o. o)
      where
        stops : (b : Bool) → stop_code b ≡ 1 → b ≡ true
        stops true e = refl
        stops false e = absurd (omega arith)

        seen : (a b : Bool) → eqb (get_or s.words 1 0) 1 ≡ b → (a ≡ true → r.main.stopped ≡ true) → (a || b) ≡ true → r.main.stopped ≡ true
        seen true b is was e = was refl
        seen false true is was e = stops r.main.stopped (sym r.words.stop_at ∙ eqb-true (get_or s.words 1 0) 1 is)
        seen false false is was e = absurd (cc)

  -- the steps as a table asks for them
  as_worker : (me : Seat) (w : WorkerView) (slots id i : ℕ) (f : ℕ → ℕ) (then : Seat → ℕ → Seat → Type 0) → me ≡ (Worker w, [])
      → Allows (Fits p size) slots id (Worker w, []) i f (then (Worker w, [])) → Allows (Rule p size) slots id me i f (then me)
  as_worker me w slots id i f then is a = subst (λ (m : Seat). Allows (Rule p size) slots id m i f (then m)) (sym is) (allowed p size slots id i (Worker w, []) f (then (Worker w, [])) a)

  pub may_draw : (slots id : ℕ) (me : Seat) (w : WorkerView) → me ≡ (Worker w, []) → w.stage ≡ Idle → w.done ≡ false
      → Allows (Rule p size) slots id me 0 (λ n. (n + 1) % 2 ^ 64) (draws (step slots 0 1 0 none) me)
  may_draw slots id me w is idle not_done = as_worker me w slots id 0 (λ n. (n + 1) % 2 ^ 64) (draws (step slots 0 1 0 none)) is
      (λ s r _ at _. let x : ℕ = get_or s.words 0 0 in let k = r.counts in let d = done_le s.views in let k0 = k.reached in let k1 = k.live in let k2 = k.left in let k3 = k.made in let k4 = k.small in
      let here : x ≡ r.cursor = r.words.cursor_at in let same : x + 1 ≡ (x + 1) % 18446744073709551616 = omega arith in (
        Worker (after_draw 0 x w),
        keeps,
        tt,
        subst (λ (y : ℕ). Fits p size (stepped s 0 y id [] (Worker (after_draw 0 x w)) keeps)) same
            (subst (λ (c : ℕ). Fits p size (stepped s 0 (c + 1) id [] (Worker (after_draw 0 c w)) keeps)) (sym here) (draws_at s r id w at (ltb r.cursor w.size) refl not_done w.stage refl idle)),
        refl,
      ))

  pub may_claim : (slots id i : ℕ) (me : Seat) (w : WorkerView) (t new : ℕ) → me ≡ (Worker w, []) → w.stage ≡ Holds t → t < size → i ≡ slot (key_width p) t 0 → new ≡ 2 + 256 * w.number
      → Allows (Rule p size) slots id me i (λ n. either (eqb n 1) new n) (claims (step slots i 1 new none) me)
  may_claim slots id i me w t new is holds within place is_new =
      subst (λ (z : ℕ × ℕ). Allows (Rule p size) slots id me z.0 (λ n. either (eqb n 1) z.1 n) (claims (step slots z.0 1 z.1 none) me)) (λ k. (sym place k, sym is_new k))
      (let i' : ℕ = slot (key_width p) t 0 in let new' : ℕ = 2 + 256 * w.number in as_worker me w slots id i' (λ n. either (eqb n 1) new' n) (claims (step slots i' 1 new' none)) is
      (λ s r _ at _. let x : ℕ = get_or s.words i' 0 in (
        Worker (after_claim i' x w),
        keeps,
        tt,
        subst (λ (g : Stage). Fits p size (stepped s i' (either (eqb x 1) new' x) id [] (Worker (record w { stage = stage_claimed (eqb x 1) (eqb x 0) g; saw_mark = cond (eqb x 1) false w.saw_mark; trace = noted i' x w.trace })) keeps)) (sym holds)
            (claims_at s r id w at t holds within x refl (eqb x 1) (eqb x 0) refl i'),
        (refl, claimable s r id w at t holds within),
      )))

  pub may_read : (slots id i : ℕ) (me : Seat) (w : WorkerView) (t : ℕ) (read : List (ℕ × ℕ)) (j : ℕ) → me ≡ (Worker w, []) → w.problem ≡ p → w.stage ≡ Runs t read → j < key_width p → i ≡ slot (key_width p) t (1 + j)
      → Allows (Rule p size) slots id me i (λ n. n) (reads (step slots i 0 0 none) me)
  may_read slots id i me w t read j is of runs small place =
      subst (λ (z : ℕ). Allows (Rule p size) slots id me z (λ n. n) (reads (step slots z 0 0 none) me)) (sym place)
      (let i' : ℕ = slot (key_width p) t (1 + j) in as_worker me w slots id i' (λ n. n) (reads (step slots i' 0 0 none)) is
      (λ s r _ at _. let x : ℕ = get_or s.words i' 0 in (
        Worker (after_read j i' x w),
        keeps,
        tt,
        subst (λ (g : Stage). Fits p size (stepped s i' x id [] (Worker (record w { stage = stage_read j x g; trace = noted i' x w.trace })) keeps)) (sym runs) (reads_at s r id w at t read runs j small i'),
        λ k at_k _. let there' : slot (key_width p) t (1 + j) ≡ slot (key_width p) t (1 + k) = at_k ∙ ap (λ (q : ClauseProblem). slot (key_width q) (ticket_in w.stage) (1 + k)) of ∙ ap (λ (g : Stage). slot (key_width p) (ticket_in g) (1 + k)) runs in
            let word : 1 + j ≡ 1 + k = same_word (key_width p) t (1 + j) (1 + k) there' in let same : j ≡ k = omega arith in
            (ap (λ (q : ℕ). (Worker (after_read q i' x w), [])) same, subst (λ (q : ℕ). KeyWord (Worker w) q x) same (key_word s r id w at t read j runs of small)),
      )))

  pub may_answer : (slots id i : ℕ) (me : Seat) (w : WorkerView) (t : ℕ) (read : List (ℕ × ℕ)) (v : Verdict) (key : PositionSet) (old new : ℕ) → me ≡ (Worker w, []) → w.stage ≡ Runs t read → t < size
      → IsKeyOf p key → ((j : ℕ) → j < key_width p → Contains read (j, word_of key j)) → IsVerdictOf p key v → i ≡ slot (key_width p) t 0 → old ≡ 2 + 256 * w.number → new ≡ answer_code v
      → Allows (Rule p size) slots id me i (λ n. either (eqb n old) new n) (answers (step slots i old new none) me)
  may_answer slots id i me w t read v key old new is runs within over all right place is_old is_new =
      subst (λ (z : ℕ × ℕ × ℕ). Allows (Rule p size) slots id me z.0 (λ n. either (eqb n z.1) z.2 n) (answers (step slots z.0 z.1 z.2 none) me)) (λ k. (sym place k, sym is_old k, sym is_new k))
      (let i' : ℕ = slot (key_width p) t 0 in let old' : ℕ = 2 + 256 * w.number in as_worker me w slots id i' (λ n. either (eqb n old') (answer_code v) n) (answers (step slots i' old' (answer_code v) none)) is
      (λ s r _ at _. let x : ℕ = get_or s.words i' 0 in (
        Worker (after_answer i' x w),
        keeps,
        tt,
        answers_at s r id w at t read runs within v key over all right x refl (eqb x old') refl i',
        (refl, own_word s r id w at t read runs within),
      )))

  pub may_give_up : (slots id i : ℕ) (me : Seat) (w : WorkerView) (t : ℕ) (read : List (ℕ × ℕ)) (old : ℕ) → me ≡ (Worker w, []) → w.stage ≡ Runs t read → t < size → i ≡ slot (key_width p) t 0 → old ≡ 2 + 256 * w.number
      → Allows (Rule p size) slots id me i (λ n. either (eqb n old) 4 n) (answers (step slots i old 4 none) me)
  may_give_up slots id i me w t read old is runs within place is_old =
      subst (λ (z : ℕ × ℕ). Allows (Rule p size) slots id me z.0 (λ n. either (eqb n z.1) 4 n) (answers (step slots z.0 z.1 4 none) me)) (λ k. (sym place k, sym is_old k))
      (let i' : ℕ = slot (key_width p) t 0 in let old' : ℕ = 2 + 256 * w.number in as_worker me w slots id i' (λ n. either (eqb n old') 4 n) (answers (step slots i' old' 4 none)) is
      (λ s r _ at _. let x : ℕ = get_or s.words i' 0 in (
        Worker (after_answer i' x w),
        keeps,
        tt,
        ends_at s r id w at t read runs within GivenUp (λ f e same q. given_up s r id w at e q) (λ m e. cc) x refl (eqb x old') refl i',
        (refl, own_word s r id w at t read runs within),
      )))

  pub may_look_at_mark : (slots id i : ℕ) (me : Seat) (w : WorkerView) (t : ℕ) (read : List (ℕ × ℕ)) → me ≡ (Worker w, []) → w.stage ≡ Runs t read → t < size → i ≡ slot (key_width p) t 0
      → Allows (Rule p size) slots id me i (λ n. n) (looks_at_mark (step slots i 0 0 none) me)
  may_look_at_mark slots id i me w t read is runs within place =
      subst (λ (z : ℕ). Allows (Rule p size) slots id me z (λ n. n) (looks_at_mark (step slots z 0 0 none) me)) (sym place)
      (let i' : ℕ = slot (key_width p) t 0 in as_worker me w slots id i' (λ n. n) (looks_at_mark (step slots i' 0 0 none)) is
      (λ s r _ at _. let x : ℕ = get_or s.words i' 0 in (Worker (after_mark_look i' x w), keeps, tt, mark_looks_at s r id w at t read runs within i', refl)))

  pub may_look_at_stop : (slots id : ℕ) (me : Seat) (w : WorkerView) → me ≡ (Worker w, []) → Allows (Rule p size) slots id me 1 (λ n. n) (looks_at_stop (step slots 1 0 0 none) me)
  may_look_at_stop slots id me w is = as_worker me w slots id 1 (λ n. n) (looks_at_stop (step slots 1 0 0 none)) is
      (λ s r _ at _. let x : ℕ = get_or s.words 1 0 in (Worker (after_stop_look 1 x w), keeps, tt, stop_looks_at s r id w at 1, (refl, stop_word s r id w at)))
