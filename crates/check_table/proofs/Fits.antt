-- The rule, in the form in which the steps are proved: what the words say of cells, what holds of each entry with its cell,
-- and what holds of each view.
use Rattle.std.proofs.Common.{◌≡◌, ◌≢◌, ◌↔◌, ℕ, zero, suc, ◌+◌, ◌*◌, ◌<◌, ◌≤◌, true, false, List, [], ◌∷◌, length, Some, Contains, sym, refl, ap, ◌∙◌, subst, arith}
use Rattle.std.specs.Prelude.{slice_index}
use mathlib.Core.Option.{Option, none, some, some-injective, some-ne-none}
use lib.ListN.{get_elem?}
use Rattle.atomic_table.specs.Table.{Allows, Splits, Joins}
use Rattle.req_keys.specs.Words.{word_of}
use Rattle.req_keys.specs.declared.verdict.Verdict.{Verdict}
use Rattle.req_keys.specs.declared.verdict.Cell.{Cell}
use Rattle.req_keys.specs.declared.verdict.Cell.TheVariants.{Empty, Running, Mine, Answered}
use Rattle.clauses.specs.Problem.{ClauseProblem}
use Rattle.check_table.specs.Places.{key_width, slot, code, stop_code, IsKeyOf, IsVerdictOf}
use Rattle.check_table.specs.Rule.{Rule, TableState, RunsThere, IsBegun, TicketStands, CountsStand, TicketsStand, ReadOf, MarkStands, marked}
use Rattle.check_table.specs.inside.Seated.{main_of}
use Rattle.check_table.specs.Steps.{Seat}
use Rattle.check_table.specs.declared.view.KnownEntry.{KnownEntry}
use Rattle.check_table.specs.declared.view.MainView.{MainView}
use Rattle.check_table.specs.declared.view.WorkerView.{WorkerView}
use Rattle.check_table.specs.declared.view.Stage.{Stage}
use Rattle.check_table.specs.declared.view.Stage.TheVariants.{Idle, Holds, Runs}
use Rattle.check_table.specs.declared.view.View.{View}
use Rattle.check_table.specs.declared.view.View.TheVariants.{Main, Worker, Spent}

-- the words say the cursor, the stop, the cells with their marks, the keys, and what is written of the next key
pub record WordsFit (p : ClauseProblem) (size : ℕ) (words : List ℕ) (main : MainView) (cursor : ℕ) (cells : ℕ → Cell) : Type 0 where
  pub sized : length words ≡ 2 + size * (1 + key_width p)
  pub cursor_at : slice_index words 0 ≡ cursor
  pub stop_at : slice_index words 1 ≡ stop_code main.stopped
  pub states : (t : ℕ) → t < size → slice_index words (slot (key_width p) t 0) ≡ code (cells t) (marked main.entries t)
  pub keys : (t j : ℕ) (e : KnownEntry) → get_elem? main.entries t ≡ some e → j < key_width p → slice_index words (slot (key_width p) t (1 + j)) ≡ word_of e.key j
  pub next : (j : ℕ) → j < length main.written → length main.entries < size → slice_index words (slot (key_width p) (length main.entries) (1 + j)) ≡ slice_index main.written j

pub record EntryFits (p : ClauseProblem) (e : KnownEntry) (c : Cell) : Type 0 where
  pub key : IsKeyOf p e.key
  pub there : c ≢ Empty
  pub mine : (c ≡ Mine) ↔ (e.mine ≡ true)
  pub right : (v : Verdict) → c ≡ Answered v → IsVerdictOf p e.key v
  pub kept : (v : Verdict) → e.seen ≡ Some v → c ≡ Answered v
  pub worker : (n : ℕ) → c ≡ Running n → n ≤ 64

pub record BoardFits (p : ClauseProblem) (size : ℕ) (main : MainView) (cells : ℕ → Cell) : Type 0 where
  pub problem : main.problem ≡ p
  pub sized : main.size ≡ size
  pub few : length main.entries ≤ size
  pub row : length main.written ≤ key_width p
  pub empty : (t : ℕ) → length main.entries ≤ t → cells t ≡ Empty
  pub entry : (t : ℕ) (e : KnownEntry) → get_elem? main.entries t ≡ some e → EntryFits p e (cells t)

-- the words that a worker has read are words of the key of the entry that it runs
pub record RunFits (main : MainView) (cells : ℕ → Cell) (number t : ℕ) (read : List (ℕ × ℕ)) : Type 0 where
  pub running : cells t ≡ Running number
  pub entry : KnownEntry
  pub at : get_elem? main.entries t ≡ some entry
  pub read_is : (j n : ℕ) → Contains read (j, n) → n ≡ word_of entry.key j

-- a ticket has one owner, and who has a ticket without running it has not begun it
abbrev pub StageFits : MainView → ℕ → (ℕ → Cell) → (ℕ → ℕ) → ℕ → ℕ → Stage → Type 0
StageFits main cursor cells owner id number Idle = Unit {0}
StageFits main cursor cells owner id number (Holds t) = (t < cursor) × (owner t ≡ id) × (IsBegun (cells t) → ⊥)
StageFits main cursor cells owner id number (Runs t read) = (t < cursor) × (owner t ≡ id) × RunFits main cells number t read

pub record WorkerFits (p : ClauseProblem) (size : ℕ) (main : MainView) (cursor : ℕ) (cells : ℕ → Cell) (owner holder : ℕ → ℕ) (id : ℕ) (w : WorkerView) : Type 0 where
  pub problem : w.problem ≡ p
  pub sized : w.size ≡ size
  pub named : 1 ≤ w.number
  pub number : w.number ≤ main.made
  pub held : holder w.number ≡ id
  pub stage : StageFits main cursor cells owner id w.number w.stage
  pub stop : w.saw_stop ≡ true → main.stopped ≡ true
  pub mark : w.saw_mark ≡ true → MarkStands main.entries w.stage

abbrev pub ViewFits : ClauseProblem → ℕ → MainView → ℕ → (ℕ → Cell) → (ℕ → ℕ) → (ℕ → ℕ) → ℕ → View → Type 0
ViewFits p size main cursor cells owner holder id (Main m) = (id ≡ 0) × (m ≡ main)
ViewFits p size main cursor cells owner holder id (Worker w) = WorkerFits p size main cursor cells owner holder id w
ViewFits p size main cursor cells owner holder id Spent = Unit {0}

pub record Fits (p : ClauseProblem) (size : ℕ) (s : TableState) : Type 0 where
  pub main : MainView
  pub cursor : ℕ
  pub cells : ℕ → Cell
  pub owner : ℕ → ℕ
  pub holder : ℕ → ℕ
  pub main_at : get_elem? s.views 0 ≡ some (Main main)
  pub words : WordsFit p size s.words main cursor cells
  pub board : BoardFits p size main cells
  pub fits : (id : ℕ) (v : View) → get_elem? s.views id ≡ some v → ViewFits p size main cursor cells owner holder id v
  pub counts : CountsStand size s.views main cursor
  pub begun : (t : ℕ) → IsBegun (cells t) → t < cursor
  pub runner : (t n : ℕ) → cells t ≡ Running n → marked main.entries t ≡ false → RunsThere s.views (owner t) t n

-- from the rule
stage_fits : (main : MainView) (cursor : ℕ) (cells : ℕ → Cell) (owner : ℕ → ℕ) (id number : ℕ) (g : Stage) → TicketStands cells owner cursor id g
    → ((t : ℕ) (read : List (ℕ × ℕ)) → g ≡ Runs t read → cells t ≡ Running number) → ((t : ℕ) (read : List (ℕ × ℕ)) → g ≡ Runs t read → ReadOf main t read)
    → StageFits main cursor cells owner id number g
stage_fits main cursor cells owner id number Idle f run reads = tt
stage_fits main cursor cells owner id number (Holds t) f run reads = f
stage_fits main cursor cells owner id number (Runs t read) f run reads = let k = reads t read refl in
    (f.0, f.1, record { running = run t read refl; entry = k.entry; at = k.at; read_is = k.words })

pub fits_of : (p : ClauseProblem) (size : ℕ) (s : TableState) → Rule p size s → Fits p size s
fits_of p size s r = record {
  main = r.main;
  cursor = slice_index s.words 0;
  cells = r.cells;
  owner = r.owner;
  holder = r.holder;
  main_at = r.main_at;
  words = record { sized = r.keys.sized; cursor_at = refl; stop_at = r.stop.word; states = r.states.codes; keys = λ t j e at less. r.keys.key_words t e at j less; next = r.keys.next };
  board = record {
    problem = r.problem.main_seat.0;
    sized = r.problem.main_seat.1;
    few = r.keys.few;
    row = r.keys.row;
    empty = r.keys.past;
    entry = λ t e at. record { key = r.keys.keys t e at; there = r.keys.there t e at; mine = r.seen.mine t e at; right = r.answers t e at; kept = r.seen.seen t e at; worker = λ n is. r.states.numbers t n is };
  };
  fits = fit;
  counts = r.tickets.counts;
  begun = r.tickets.begun;
  runner = r.states.runner;
}
  where
    fit : (id : ℕ) (v : View) → get_elem? s.views id ≡ some v → ViewFits p size r.main (slice_index s.words 0) r.cells r.owner r.holder id v
    fit id (Main m) at = let zero_id = r.only id m at in
        (zero_id, ap main_of (some-injective (Main m) (Main r.main) (sym at ∙ ap (λ (k : ℕ). get_elem? s.views k) zero_id ∙ r.main_at)))
    fit id (Worker w) at = let n = r.tickets.numbers id w at in record {
      problem = (r.problem.workers id w at).0;
      sized = (r.problem.workers id w at).1;
      named = n.0;
      number = n.1;
      held = n.2;
      stage = stage_fits r.main (slice_index s.words 0) r.cells r.owner id w.number w.stage (r.tickets.tickets id w at) (r.states.running id w at) (r.reads id w at);
      stop = r.stop.stop id w at;
      mark = r.stop.mark id w at;
    }
    fit id Spent at = tt

-- to the rule
ticket_stands : (main : MainView) (cursor : ℕ) (cells : ℕ → Cell) (owner : ℕ → ℕ) (id number : ℕ) (g : Stage) → StageFits main cursor cells owner id number g → TicketStands cells owner cursor id g
ticket_stands main cursor cells owner id number Idle f = tt
ticket_stands main cursor cells owner id number (Holds t) f = f
ticket_stands main cursor cells owner id number (Runs t read) f = (f.0, f.1)

pub rule_of : (p : ClauseProblem) (size : ℕ) (s : TableState) → Fits p size s → Rule p size s
rule_of p size s f = record {
  main = f.main;
  cells = f.cells;
  owner = f.owner;
  holder = f.holder;
  main_at = f.main_at;
  only = λ id m at. (f.fits id (Main m) at).0;
  problem = record { main_seat = (f.board.problem, f.board.sized); workers = λ id w at. let k = f.fits id (Worker w) at in (k.problem, k.sized) };
  keys = record {
    sized = f.words.sized;
    few = f.board.few;
    keys = λ t e at. (f.board.entry t e at).key;
    key_words = λ t e at j less. f.words.keys t j e at less;
    row = f.board.row;
    next = f.words.next;
    past = f.board.empty;
    there = λ t e at. (f.board.entry t e at).there;
  };
  states = record { codes = f.words.states; numbers = numbers; running = λ id w at t read is. (runs id w at t read is).2.running; runner = f.runner };
  tickets = subst (λ (k : ℕ). TicketsStand size k s.views f.main f.cells f.owner f.holder) (sym f.words.cursor_at) (record {
    tickets = λ id w at. ticket_stands f.main f.cursor f.cells f.owner id w.number w.stage (f.fits id (Worker w) at).stage;
    numbers = λ id w at. let k = f.fits id (Worker w) at in (k.named, k.number, k.held);
    counts = f.counts;
    begun = f.begun;
  });
  reads = λ id w at t read is. let k = (runs id w at t read is).2 in record { entry = k.entry; at = k.at; words = k.read_is };
  answers = λ t e at. (f.board.entry t e at).right;
  seen = record { seen = λ t e at. (f.board.entry t e at).kept; mine = λ t e at. (f.board.entry t e at).mine };
  stop = record { word = f.words.stop_at; stop = λ id w at. (f.fits id (Worker w) at).stop; mark = λ id w at. (f.fits id (Worker w) at).mark };
}
  where
    runs : (id : ℕ) (w : WorkerView) → get_elem? s.views id ≡ some (Worker w) → (t : ℕ) (read : List (ℕ × ℕ)) → w.stage ≡ Runs t read → (t < f.cursor) × (f.owner t ≡ id) × RunFits f.main f.cells w.number t read
    runs id w at t read is = subst (λ (g : Stage). StageFits f.main f.cursor f.cells f.owner id w.number g) is (f.fits id (Worker w) at).stage

    past : (l : List KnownEntry) (k : ℕ) → get_elem? l k ≡ none → length l ≤ k
    past [] k e = omega arith
    past (x ∷ xs) zero e = absurd (some-ne-none x e)
    past (x ∷ xs) (suc k) e = let q = past xs k e in omega arith

    numbers : (t n : ℕ) → f.cells t ≡ Running n → n ≤ 64
    numbers t n is = by_case (get_elem? f.main.entries t) refl
      where
        by_case : (o : Option KnownEntry) → get_elem? f.main.entries t ≡ o → n ≤ 64
        by_case none none_at = let z : Empty ≡ Running n = sym (f.board.empty t (past f.main.entries t none_at)) ∙ is in absurd (cc)
        by_case (some e) at = (f.board.entry t e at).worker n is

-- a step that keeps the one form keeps the other
module _ (p : ClauseProblem) (size : ℕ) where
  pub allowed : (slots id i : ℕ) (me : Seat) (f : ℕ → ℕ) (then : ℕ → Seat → Type 0) → Allows (Fits p size) slots id me i f then → Allows (Rule p size) slots id me i f then
  allowed slots id i me f then a s r long at small = let o = a s (fits_of p size s r) long at small in (o.0, o.1, o.2, rule_of p size _ o.3, o.4)

  pub splits : (id : ℕ) (v left right : View) → Splits (Fits p size) id v left right → Splits (Rule p size) id v left right
  splits id v left right a s r at = rule_of p size _ (a s (fits_of p size s r) at)

  pub joins : (id : ℕ) (v : View) (other : ℕ) (w both after : View) → Joins (Fits p size) id v other w both after → Joins (Rule p size) id v other w both after
  joins id v other w both after a s r at apart there = rule_of p size _ (a s (fits_of p size s r) at apart there)
