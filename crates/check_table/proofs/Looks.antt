-- What a worker's call of `stopped` leaves, and what the words that it reads make.
use Rattle.std.proofs.Common.{◌≡◌, inl, inr, ⊎_elim, ℕ, ◌+◌, ◌*◌, ◌/◌, ◌%◌, ◌<◌, ◌≤◌, ◌||◌, Bool, true, false, List, length, get_or, sym, refl, ap, ◌∙◌, arith, eqb}
use Rattle.std.specs.Prelude.{IsFalse, ◌==◌}
use Rattle.std.specs.Int.{bit_at}
use Rattle.req_keys.specs.Words.{IsRowOver}
use Rattle.clauses.specs.Problem.{ClauseProblem}
use Rattle.check_table.specs.Places.{key_width, has_mark}
use Rattle.check_table.specs.Found.{LooksOnce, LooksTwice}
use Rattle.check_table.specs.Laws.{Looked, LeavesTheRest}
use Rattle.check_table.specs.declared.view.WorkerView.{WorkerView}
use Rattle.check_table.proofs.Keys.{width_is}

or_left : (a b : Bool) → a ≡ true → (a || b) ≡ true
or_left a b is = ap (λ (q : Bool). q || b) is

or_right : (a b : Bool) → b ≡ true → (a || b) ≡ true
or_right true b is = refl
or_right false b is = is

once : (before after : WorkerView) (answer : Bool) → LooksOnce before after answer → LeavesTheRest before after answer
once before after answer f = record {
  problem = ap (λ (w : WorkerView). w.problem) f.view;
  size = ap (λ (w : WorkerView). w.size) f.view;
  number = ap (λ (w : WorkerView). w.number) f.view;
  stage = ap (λ (w : WorkerView). w.stage) f.view;
  done = ap (λ (w : WorkerView). w.done) f.view;
  stop = λ saw. ap (λ (w : WorkerView). w.saw_stop) f.view ∙ or_left before.saw_stop (eqb after.trace.word 1) saw;
  mark = λ saw. ap (λ (w : WorkerView). w.saw_mark) f.view ∙ saw;
  cause = λ yes. inl (ap (λ (w : WorkerView). w.saw_stop) f.view ∙ or_right before.saw_stop (eqb after.trace.word 1) (sym f.answer_is ∙ yes));
}

twice : (before after : WorkerView) (answer : Bool) → LooksTwice before after answer → LeavesTheRest before after answer
twice before after answer f = record {
  problem = ap (λ (w : WorkerView). w.problem) f.view;
  size = ap (λ (w : WorkerView). w.size) f.view;
  number = ap (λ (w : WorkerView). w.number) f.view;
  stage = ap (λ (w : WorkerView). w.stage) f.view;
  done = ap (λ (w : WorkerView). w.done) f.view;
  stop = λ saw. ap (λ (w : WorkerView). w.saw_stop) f.view ∙ or_left before.saw_stop (eqb 0 1) saw;
  mark = λ saw. ap (λ (w : WorkerView). w.saw_mark) f.view ∙ or_left before.saw_mark (has_mark after.trace.word) saw;
  cause = λ yes. inr (ap (λ (w : WorkerView). w.saw_mark) f.view ∙ or_right before.saw_mark (has_mark after.trace.word) (sym f.answer_is ∙ yes));
}

pub looks_leave : (before after : WorkerView) (answer : Bool) → Looked before after answer → LeavesTheRest before after answer
looks_leave before after answer f = ⊎_elim (once before after answer) (twice before after answer) f

-- words without a bit above n are a key's row
pub row_over : (p : ClauseProblem) (words : List ℕ) → length words ≡ key_width p → ((j : ℕ) → j < key_width p → (b : ℕ) → b < 64 → length p.roots ≤ 64 * j + b → IsFalse (bit_at (get_or words j 0) b == 1)) → IsRowOver (length p.roots) words
row_over p words long bits = (long ∙ width_is p, λ i past inside. bits (i / 64) (omega arith) (i % 64) (omega arith) (omega arith))
