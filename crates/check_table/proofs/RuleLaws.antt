-- What the rule says of a posted entry's state word.
use Rattle.std.proofs.Common.{◌≡◌, ◌≢◌, ℕ, ◌<◌, Bool, true, false, List, Some, sym, refl, ap, ◌∙◌, arith}
use mathlib.Core.Option.{some, some-injective}
use lib.ListN.{get_elem?}
use Rattle.req_keys.specs.declared.verdict.Verdict.{Verdict}
use Rattle.req_keys.specs.declared.verdict.Verdict.TheVariants.{Sat, Unsat, Limit}
use Rattle.req_keys.specs.declared.verdict.Cell.{Cell}
use Rattle.req_keys.specs.declared.verdict.Cell.TheVariants.{Posted, Running, Mine, Answered}
use Rattle.clauses.specs.Problem.{ClauseProblem}
use Rattle.check_table.specs.Places.{code, cell_of, IsVerdictOf}
use Rattle.check_table.specs.Views.{answer_met}
use Rattle.check_table.specs.Rule.{Rule, TableState, marked, mark_in}
use Rattle.check_table.specs.Laws.{HasMain, HasWorker}
use Rattle.check_table.specs.Board.{state_word}
use Rattle.check_table.specs.inside.Seated.{main_of}
use Rattle.check_table.specs.declared.view.KnownEntry.{KnownEntry}
use Rattle.check_table.specs.declared.view.MainView.{MainView}
use Rattle.check_table.specs.declared.view.WorkerView.{WorkerView}
use Rattle.check_table.specs.declared.view.Stage.TheVariants.{Runs}
use Rattle.check_table.specs.declared.view.View.TheVariants.{Main}
use Rattle.check_table.proofs.Codes.{is_posted, cell_of_code}
use Rattle.check_table.proofs.Entries.{at_less}

module _ (p : ClauseProblem) (size : ℕ) (s : TableState) (r : Rule p size s) where
  pub main_view : (m : MainView) → HasMain s m → r.main ≡ m
  main_view m at = ap main_of (some-injective (Main r.main) (Main m) (sym r.main_at ∙ at))

  pub state_code : (t : ℕ) → t < size → state_word p s.words t ≡ code (r.cells t) (marked r.main.entries t)
  state_code t within = r.states.codes t within

  module _ (m : MainView) (t : ℕ) (e : KnownEntry) (has : HasMain s m) (at : get_elem? m.entries t ≡ some e) where
    pub at_main : get_elem? r.main.entries t ≡ some e
    at_main = ap (λ (k : MainView). get_elem? k.entries t) (main_view m has) ∙ at

    pub within : t < size
    within = let below = at_less r.main.entries t e at_main in let few = r.keys.few in omega arith

    pub entry_code : state_word p s.words t ≡ code (r.cells t) e.cancelled
    entry_code = r.states.codes t within ∙ ap (λ o. code (r.cells t) (mark_in o)) at_main

    pub entry_cell : cell_of (state_word p s.words t) ≡ r.cells t
    entry_cell = ap cell_of entry_code ∙ cell_of_code (r.cells t) e.cancelled

    pub right : (v : Verdict) (mark : Bool) → state_word p s.words t ≡ code (Answered v) mark → IsVerdictOf p e.key v
    right v mark is = r.answers t e at_main v (sym entry_cell ∙ ap cell_of is ∙ cell_of_code (Answered v) mark)

    pub mine_cell : e.mine ≡ true → r.cells t ≡ Mine
    mine_cell mine = (r.seen.mine t e at_main).1 mine

    pub mine_word : e.mine ≡ true → state_word p s.words t ≢ 1
    mine_word mine is = let z : Posted ≡ Mine = sym (is_posted (r.cells t) e.cancelled (sym entry_code ∙ is)).0 ∙ mine_cell mine in cc

    pub mine_runs : e.mine ≡ true → (id : ℕ) (w : WorkerView) (read : List (ℕ × ℕ)) → HasWorker s id w → w.stage ≡ Runs t read → ⊥
    mine_runs mine id w read there runs = let z : Running w.number ≡ Mine = sym (r.states.running id w there t read runs) ∙ mine_cell mine in cc

    pub seen_word : (v : Verdict) → e.seen ≡ Some v → state_word p s.words t ≡ code (Answered v) e.cancelled
    seen_word v seen = entry_code ∙ ap (λ (c : Cell). code c e.cancelled) (r.seen.seen t e at_main v seen)

    pub seen_kept : (v : Verdict) → e.seen ≡ Some v → answer_met (state_word p s.words t) e.seen ≡ Some v
    seen_kept v seen = (λ i. answer_met (seen_word v seen i) (seen i)) ∙ by v e.cancelled
      where
        by : (v : Verdict) (b : Bool) → answer_met (code (Answered v) b) (Some v) ≡ Some v
        by Sat true = refl
        by Sat false = refl
        by Unsat true = refl
        by Unsat false = refl
        by Limit true = refl
        by Limit false = refl
