-- From what a seat has at run time to what its view says, and from what a step told to what the call answers.
use Rattle.std.proofs.Common.{◌≡◌, ◌≢◌, ℕ, ◌+◌, ◌*◌, ◌/◌, ◌^◌, ◌<◌, ◌≤◌, ◌||◌, length, Bool, true, false, true≢false, List, [], Some, sym, refl, ap, ◌∙◌, subst, arith, eqb}
use mathlib.Core.Option.{none, some}
use lib.ListN.{get_elem?}
use Rattle.atomic_table.specs.Table.{step}
use Rattle.req_keys.specs.declared.verdict.Verdict.{Verdict}
use Rattle.req_keys.specs.declared.verdict.Verdict.TheVariants.{Sat, Unsat, Limit}
use Rattle.req_keys.specs.declared.verdict.Cell.{Cell}
use Rattle.req_keys.specs.declared.verdict.Cell.TheVariants.{Empty, Posted, Running, Mine, GivenUp, Answered}
use Rattle.clauses.specs.Problem.{ClauseProblem}
use Rattle.check_table.specs.Places.{key_width, slot, code, cell_of, IsVerdictOf}
use Rattle.check_table.specs.Views.{after_take, after_look, after_cancel, after_stop_look, answer_met}
use Rattle.check_table.specs.Rule.{IsBegun}
use Rattle.check_table.specs.Found.{ClaimedIs, TookIs, IsRunning, left_of, ticket_in}
use Rattle.check_table.specs.Steps.{Seat, by_worker, takes, looks, cancels, reads, Claimable, KeyWord, Told, Tells}
use Rattle.check_table.specs.inside.Seated.{TicketIs, RunningIs, MainKept, CanBeMet, main_of, worker_of}
use Rattle.check_table.specs.declared.found.Took.{Took}
use Rattle.check_table.specs.declared.found.Left.{Left}
use Rattle.check_table.specs.declared.found.Claimed.{Claimed}
use Rattle.check_table.specs.declared.view.WorkerView.{WorkerView}
use Rattle.check_table.specs.declared.found.Took.TheVariants as took
use Rattle.check_table.specs.declared.found.Claimed.TheVariants as claimed
use Rattle.check_table.specs.declared.found.Left.TheVariants as left
use Rattle.check_table.specs.declared.view.KnownEntry.{KnownEntry}
use Rattle.check_table.specs.declared.view.MainView.{MainView}
use Rattle.check_table.specs.declared.view.Stage.{Stage}
use Rattle.check_table.specs.declared.view.Stage.TheVariants.{Idle, Holds, Runs}
use Rattle.check_table.specs.declared.view.View.TheVariants.{Main, Worker}
use Rattle.check_table.proofs.Codes.{cell_of_code}
use Rattle.check_table.proofs.Entries.{change_length}

pub held : (k size t : ℕ) (stage : Stage) → stage ≡ Holds t → TicketIs k size stage → (t ≡ k) × (t < size)
held k size t stage is f = subst (TicketIs k size) is f

pub run : (k size t : ℕ) (read : List (ℕ × ℕ)) (stage : Stage) → stage ≡ Runs t read → TicketIs k size stage → (t ≡ k) × (t < size)
run k size t read stage is f = subst (TicketIs k size) is f

pub at_slot : {w w' t t' : ℕ} (j : ℕ) → w ≡ w' → t ≡ t' → slot w t j ≡ slot w' t' j
at_slot j e f = λ k. slot (e k) (f k) j

pub at_word : {w w' t t' j j' : ℕ} → w ≡ w' → t ≡ t' → j ≡ j' → slot w t (1 + j) ≡ slot w' t' (1 + j')
at_word e f g = λ k. slot (e k) (f k) (1 + g k)

-- the steps of the main seat on the state word of entry t
module _ (slots : ℕ) (me me' : Seat) (p : ClauseProblem) (i x t : ℕ) (is : me ≡ (Main (main_of me.0), [])) (of : (main_of me.0).problem ≡ p) (place : i ≡ slot (key_width p) t 0) where
  abbrev m : MainView
  m = main_of me.0

  there : i ≡ slot (key_width m.problem) t 0
  there = place ∙ ap (λ (q : ClauseProblem). slot (key_width q) t 0) (sym of)

  tells_of : (e : KnownEntry) → get_elem? m.entries t ≡ some e → Tells (Main m) t x → Told p e x
  tells_of e at f = subst (λ (q : ClauseProblem). Told q e x) of (f e at)

  take_then : takes (step slots i 1 3 none) me x me' → (me' ≡ (Main (after_take t i x m), [])) × Tells (Main m) t x
  take_then f = subst (λ (z : Seat). takes (step slots i 1 3 none) z x me') is f t there

  pub taken : takes (step slots i 1 3 none) me x me' → me' ≡ (Main (after_take t i x m), [])
  taken f = (take_then f).0

  pub taken_told : (e : KnownEntry) → get_elem? m.entries t ≡ some e → takes (step slots i 1 3 none) me x me' → Told p e x
  taken_told e at f = tells_of e at (take_then f).1

  look_then : looks (step slots i 0 0 none) me x me' → (me' ≡ (Main (after_look t i x m), [])) × Tells (Main m) t x
  look_then f = subst (λ (z : Seat). looks (step slots i 0 0 none) z x me') is f t there

  pub looked : looks (step slots i 0 0 none) me x me' → me' ≡ (Main (after_look t i x m), [])
  looked f = (look_then f).0

  pub looked_told : (e : KnownEntry) → get_elem? m.entries t ≡ some e → looks (step slots i 0 0 none) me x me' → Told p e x
  looked_told e at f = tells_of e at (look_then f).1

  pub cancelled : cancels (step slots i 8 0 none) me x me' → me' ≡ (Main (after_cancel t i x m), [])
  cancelled f = subst (λ (z : Seat). cancels (step slots i 8 0 none) z x me') is f t there

-- what the main seat keeps beside its view, after a step that changes what it knows of an entry
kept_by : (me' : Seat) (id posted made : ℕ) (m m' : MainView) → me' ≡ (Main m', []) → length m'.entries ≡ length m.entries → m'.made ≡ m.made → m'.size ≡ m.size
    → (id ≡ 0) × (posted ≡ length m.entries) × (made ≡ m.made) × (posted ≤ m.size) × (made ≤ 64) → MainKept id me' posted made (main_of me'.0)
kept_by me' id posted made m m' is same same_made same_size f =
    subst (λ (z : Seat). MainKept id z posted made (main_of z.0)) (sym is)
    (f.0, refl, f.1 ∙ sym same, f.2 ∙ sym same_made, subst (λ (k : ℕ). posted ≤ k) (sym same_size) f.3, f.4)

module _ (me me' : Seat) (id posted made : ℕ) (m : MainView) (t place n : ℕ) (f : MainKept id me posted made m) where
  pub take_keeps : me' ≡ (Main (after_take t place n m), []) → MainKept id me' posted made (main_of me'.0)
  take_keeps is = kept_by me' id posted made m (after_take t place n m) is (change_length (λ e. record e { seen = answer_met n e.seen; mine = eqb n 1 || e.mine }) m.entries t) refl refl (f.0, f.2, f.3, f.4, f.5)

  pub look_keeps : me' ≡ (Main (after_look t place n m), []) → MainKept id me' posted made (main_of me'.0)
  look_keeps is = kept_by me' id posted made m (after_look t place n m) is (change_length (λ e. record e { seen = answer_met n e.seen }) m.entries t) refl refl (f.0, f.2, f.3, f.4, f.5)

  pub cancel_keeps : me' ≡ (Main (after_cancel t place n m), []) → MainKept id me' posted made (main_of me'.0)
  cancel_keeps is = kept_by me' id posted made m (after_cancel t place n m) is (change_length (λ e. record e { cancelled = true }) m.entries t) refl refl (f.0, f.2, f.3, f.4, f.5)

-- what the main seat is told of an entry
small_code : (c : Cell) (m : Bool) → ((n : ℕ) → c ≡ Running n → n ≤ 64) → code c m / 256 ≤ 64
small_code Empty true f = omega arith
small_code Empty false f = omega arith
small_code Posted true f = omega arith
small_code Posted false f = omega arith
small_code (Running w) true f = let few = f w refl in omega arith
small_code (Running w) false f = let few = f w refl in omega arith
small_code Mine true f = omega arith
small_code Mine false f = omega arith
small_code GivenUp true f = omega arith
small_code GivenUp false f = omega arith
small_code (Answered Sat) true f = omega arith
small_code (Answered Sat) false f = omega arith
small_code (Answered Unsat) true f = omega arith
small_code (Answered Unsat) false f = omega arith
small_code (Answered Limit) true f = omega arith
small_code (Answered Limit) false f = omega arith

module _ (p : ClauseProblem) (e : KnownEntry) (n : ℕ) (f : Told p e n) where
  pub told_cell : cell_of n ≡ f.cell
  told_cell = ap cell_of f.word ∙ cell_of_code f.cell e.cancelled

  pub told_small : n / 256 < 2 ^ 32
  told_small = let small = small_code f.cell e.cancelled f.number in let is = f.word in let c : ℕ = code f.cell e.cancelled in let q : n / 256 ≡ c / 256 = ap (λ (k : ℕ). k / 256) is in omega arith

  pub told_met : e.mine ≡ false → CanBeMet (cell_of n)
  told_met free = ((λ z. f.there (sym told_cell ∙ z)), λ z. true≢false (sym (f.mine (sym told_cell ∙ z)) ∙ free))

  pub told_right : (v : Verdict) → cell_of n ≡ Answered v → IsVerdictOf p e.key v
  told_right v is = f.right v (sym told_cell ∙ is)

  pub told_kept : (v : Verdict) → e.seen ≡ Some v → cell_of n ≡ Answered v
  told_kept v is = told_cell ∙ f.kept v is

-- the same, for a take and a look: the state word is the code of a cell
pub took_met : (p : ClauseProblem) (e : KnownEntry) (n word : ℕ) (answer : Took) → Told p e n → word ≡ n → e.cancelled ≡ false → TookIs (cell_of n) answer → (c : Cell) × (word ≡ code c false) × TookIs c answer
took_met p e n word answer f same bare is = (f.cell, same ∙ f.word ∙ ap (code f.cell) bare, subst (λ (c : Cell). TookIs c answer) (told_cell p e n f) is)

pub look_met : (p : ClauseProblem) (e : KnownEntry) (n word : ℕ) (cell : Cell) → Told p e n → word ≡ n → cell ≡ cell_of n → word ≡ code cell e.cancelled
look_met p e n word cell f same is = same ∙ f.word ∙ ap (λ (c : Cell). code c e.cancelled) (sym (is ∙ told_cell p e n f))

-- an answer that a take gave is that of the cell
pub took_answered : (c : Cell) (answer : Took) (v : Verdict) → TookIs c answer → answer ≡ took.Answered v → c ≡ Answered v
took_answered Posted answer v f is = let z : took.Mine ≡ took.Answered v = sym f ∙ is in absurd (cc)
took_answered (Running w) answer v f is = let z : took.Running ≡ took.Answered v = sym f ∙ is in absurd (cc)
took_answered GivenUp answer v f is = let z : took.GivenUp ≡ took.Answered v = sym f ∙ is in absurd (cc)
took_answered (Answered u) answer v f is = let z : took.Answered u ≡ took.Answered v = sym f ∙ is in let same : u ≡ v = cc in ap Answered same
took_answered Empty answer v f is = absurd f
took_answered Mine answer v f is = absurd f

pub answered_took : (c : Cell) (answer : Took) (v : Verdict) → TookIs c answer → c ≡ Answered v → answer ≡ took.Answered v
answered_took c answer v f is = subst (λ (k : Cell). TookIs k answer) is f

-- a worker's view after its step
pub stepped_view : (f : WorkerView → WorkerView) (me me' : Seat) → me ≡ (Worker (worker_of me.0), []) → me' ≡ (by_worker f me.0, me.1) → worker_of me'.0 ≡ f (worker_of me.0)
stepped_view f me me' is after = ap (λ (z : Seat). worker_of z.0) after ∙ ap (λ (z : Seat). worker_of (by_worker f z.0)) is

-- what a claim answers of the word n
abbrev pub ClaimMet : ℕ → Claimed → Type 0
ClaimMet n answer = (c : Cell) × (mark : Bool) × (n ≡ code c mark) × ClaimedIs c mark answer

pub claim_met : (n : ℕ) → Claimable n → (answer : Claimed) → (n ≡ 1 → answer ≡ claimed.Taken) → (n ≡ 0 → answer ≡ claimed.NotYet) → (n ≢ 1 → n ≢ 0 → answer ≡ claimed.Gone) → ClaimMet n answer
claim_met n f answer one zero other = (f.0, f.1, f.2, by f.0 f.1 f.2 f.3)
  where
    by : (c : Cell) (m : Bool) → n ≡ code c m → (IsBegun c → ⊥) → ClaimedIs c m answer
    by Empty true is begun = other (λ z. omega arith) (λ z. omega arith)
    by Posted true is begun = other (λ z. omega arith) (λ z. omega arith)
    by Mine true is begun = other (λ z. omega arith) (λ z. omega arith)
    by (Running w) true is begun = absurd (begun tt)
    by GivenUp true is begun = absurd (begun tt)
    by (Answered v) true is begun = absurd (begun tt)
    by Empty false is begun = zero is
    by Posted false is begun = one is
    by Mine false is begun = other (λ z. omega arith) (λ z. omega arith)
    by (Running w) false is begun = absurd (begun tt)
    by GivenUp false is begun = absurd (begun tt)
    by (Answered v) false is begun = absurd (begun tt)

-- an answer that met the worker's own run, or not
abbrev pub AnswerMet : ℕ → ℕ → Left → Type 0
AnswerMet number n answer = (mark : Bool) × (n ≡ code (Running number) mark) × (answer ≡ left_of mark)

pub answer_kept : (number n : ℕ) → n ≡ 2 + 256 * number → AnswerMet number n left.Kept
answer_kept number n is = (false, is, refl)

pub answer_late : (number n : ℕ) → (mark : Bool) × (n ≡ code (Running number) mark) → n ≢ 2 + 256 * number → AnswerMet number n left.Late
answer_late number n own ne = by own.0 own.1
  where
    by : (m : Bool) → n ≡ code (Running number) m → AnswerMet number n left.Late
    by true is = (true, is, refl)
    by false is = absurd (ne is)

runs_now : (b : Bool) (g : Stage) → RunningIs b g → b ≡ true → (t : ℕ) × (read : List (ℕ × ℕ)) × (g ≡ Runs t read)
runs_now b Idle r e = absurd (true≢false (sym e ∙ r))
runs_now b (Holds t) r e = absurd (true≢false (sym e ∙ r))
runs_now b (Runs t read) r e = (t, read, refl)

rests_now : (b : Bool) (g : Stage) → RunningIs b g → b ≡ false → (t : ℕ) (read : List (ℕ × ℕ)) → g ≡ Runs t read → ⊥
rests_now b g r e t read is = true≢false (sym (subst (RunningIs b) is r) ∙ e)

-- a word of a key that was read
pub read_word : (slots : ℕ) (me me' : Seat) (i x t j : ℕ) (read : List (ℕ × ℕ)) → me ≡ (Worker (worker_of me.0), []) → (worker_of me.0).stage ≡ Runs t read → i ≡ slot (key_width (worker_of me.0).problem) t (1 + j) → j < key_width (worker_of me.0).problem
    → reads (step slots i 0 0 none) me x me' → KeyWord (Worker (worker_of me.0)) j x
read_word slots me me' i x t j read is runs place less f =
    (subst (λ (z : Seat). reads (step slots i 0 0 none) z x me') is f j (place ∙ ap (λ (g : Stage). slot (key_width (worker_of me.0).problem) (ticket_in g) (1 + j)) (sym runs)) less).1

-- a seat that runs its entry still does after a look at the stop word
pub still_runs : (me me' : Seat) (n : ℕ) (b : Bool) → me ≡ (Worker (worker_of me.0), []) → me' ≡ (by_worker (after_stop_look 1 n) me.0, me.1) → RunningIs b (worker_of me.0).stage → b ≡ true → IsRunning (worker_of me'.0)
still_runs me me' n b is looked r e = let k = runs_now b (worker_of me.0).stage r e in
    let same : me' ≡ (Worker (after_stop_look 1 n (worker_of me.0)), []) = looked ∙ ap (λ (m : Seat). (by_worker (after_stop_look 1 n) m.0, m.1)) is in
    (k.0, k.1, ap (λ (m : Seat). (worker_of m.0).stage) same ∙ k.2)
