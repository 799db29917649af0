use Rattle.std.proofs.Common.{ℕ, ◌+◌, ◌<◌, rules, sym, ap, ◌∙◌, subst}
use Rattle.clauses.specs.Problem.{ClauseProblem}
use Rattle.check_table.specs.Places.{key_width, IsKeyOf}
use Rattle.check_table.proofs.Seating.{run, at_slot, read_word}
use Rattle.check_table.proofs.Keys.{no_bits}
use Rattle.check_table.proofs.Workers.{may_read}
use Rattle.check_table.proofs.table.CheckTable.key_word.Goals as goal

pub load-requires : goal.load-requires
load-requires c =
    let t = c.requires.running.0 in
    let read = c.requires.running.1 in
    let stage = ap (λ z. z.sees.stage) c.w.view_is ∙ c.requires.running.2 in
    let k = run _ _ t read _ stage c.w.invariant.3 in
    let problem = ap (λ z. z.sees.problem) c.w.view_is ∙ c.requires.own.problem ∙ sym (ap (λ z. z.problem) c.self.view_is) in
    let width = ap (λ z. key_width z.problem) c.self.view_is in (
      search rules,
      search rules,
      may_read _ _ _ _ _ _ _ t read c.args.j c.w.invariant.0 problem stage (subst (λ (n : ℕ). c.args.j < n) (sym width) c.requires.within)
          (c.at-at.ensures.place ∙ at_slot (1 + c.args.j) (sym width) (sym k.0)),
    )

pub returns-clause-bits : goal.returns-clause-bits
returns-clause-bits c b small past =
    let t = c.requires.running.0 in
    let read = c.requires.running.1 in
    let stage = ap (λ z. z.sees.stage) c.w.view_is ∙ c.requires.running.2 in
    let k = run _ _ t read _ stage c.w.invariant.3 in
    let problem = ap (λ z. z.sees.problem) c.w.view_is ∙ c.requires.own.problem in
    let word = read_word c.self.inside.table.shared.table_id.slots _ _ _ _ t c.args.j read c.w.invariant.0 stage
    (c.at-at.ensures.place ∙ at_slot (1 + c.args.j) (ap key_width (sym problem)) (sym k.0))
    (subst (λ (q : ClauseProblem). c.args.j < key_width q) (sym problem) c.requires.within) c.load.ensures.2 in
    rw word.2 (no_bits c.args.self.now.problem word.0 c.args.j b (subst (λ (q : ClauseProblem). IsKeyOf q word.0) problem word.1) small past)
