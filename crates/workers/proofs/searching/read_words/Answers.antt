use Rattle.std.proofs.Common.{ℕ, ◌+◌, ◌*◌, ◌<◌, ◌≤◌, List, [], ◌∷◌, ◌++◌, length, get_or, sym, ap, ◌∙◌, subst, arith, length-append}
use Rattle.std.specs.Prelude.{Contains, IsFalse, ◌==◌}
use Rattle.std.specs.Int.{bit_at}
use Rattle.check_table.specs.Views.{stage_read}
use Rattle.check_table.specs.declared.view.WorkerView.{WorkerView}
use Rattle.check_table.proofs.Looks.{row_over}
use Rattle.workers.proofs.Tickets.{row_more, read_more}
use Rattle.workers.proofs.searching.read_words.Goals as goal

pub returns-in_err-push-clause-running : goal.returns-in_err-push-clause-running
returns-in_err-push-clause-running c = let r = c.loop-j.invariant.read in
    (r.0, r.1 ++ (c.loop-j.j, c.key_word.result) ∷ [], ap (λ (w : WorkerView). w.stage) c.key_word.ensures.view ∙ ap (stage_read c.loop-j.j c.key_word.result) r.2)

pub loop-j-preserved : goal.loop-j-preserved
loop-j-preserved c =
    let i = c.loop-j.invariant in
    let r = i.read in
    let long = i.long in
    let view = c.key_word.ensures.view in
    let items = c.in_ok-push.ensures.items in
    let x = c.key_word.result in
    let more = ap (λ (l : List ℕ). length l) items in
    let added = length-append c.loop-j.words.items (x ∷ []) in
    let n = length c.args.table.now.problem.roots in
    record {
      own = c.key_word.ensures.own;
      number = ap (λ (w : WorkerView). w.number) view ∙ i.number;
      done = ap (λ (w : WorkerView). w.done) view ∙ i.done;
      long = omega arith;
      bits =
          let P : ℕ → ℕ → Type 0 = λ k word. (b : ℕ) → b < 64 → n ≤ 64 * k + b → IsFalse (bit_at word b == 1) in
          subst (λ (l : List ℕ). (k : ℕ) → k < c.loop-j.j + 1 → P k (get_or l k 0)) (sym items) (row_more P c.loop-j.j x c.loop-j.words.items long i.bits c.key_word.ensures.bits);
      read = (
        r.0,
        r.1 ++ (c.loop-j.j, x) ∷ [],
        ap (λ (w : WorkerView). w.stage) view ∙ ap (stage_read c.loop-j.j x) r.2,
        subst (λ (l : List ℕ). (k : ℕ) → k < c.loop-j.j + 1 → Contains (r.1 ++ (c.loop-j.j, x) ∷ []) (k, get_or l k 0)) (sym items) (read_more c.loop-j.j x c.loop-j.words.items r.1 long r.3),
      );
    }

pub returns-clause-row : goal.returns-clause-row
returns-clause-row c =
    let i = c.loop-j.invariant in
    let long = i.long in
    let count = c.requires.count in
    row_over c.args.table.now.problem c.loop-j.words.items (omega arith) (λ j less. let within : j < c.loop-j.j = omega arith in i.bits j within)
