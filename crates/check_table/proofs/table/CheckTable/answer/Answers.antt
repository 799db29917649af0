use Rattle.std.proofs.Common.{ℕ, ◌+◌, ◌*◌, ◌<◌, Contains, rules, sym, ap, ◌∙◌, subst}
use Rattle.req_keys.specs.Words.{word_of}
use Rattle.clauses.specs.Problem.{ClauseProblem}
use Rattle.check_table.specs.Places.{key_width, IsKeyOf, IsVerdictOf}
use Rattle.check_table.proofs.Seating.{run, at_slot}
use Rattle.check_table.proofs.Workers.{may_answer}
use Rattle.check_table.proofs.table.CheckTable.answer.Goals as goal

pub compare_exchange-found-requires : goal.compare_exchange-found-requires
compare_exchange-found-requires c =
    let r = c.requires.verdict in
    let t = r.0 in let read = r.1 in let key = r.2 in let has = r.3 in
    let stage = ap (λ z. z.sees.stage) c.w.view_is ∙ has.runs in
    let k = run _ _ t read _ stage c.w.invariant.3 in
    let size = ap (λ z. z.sees.size) c.w.view_is ∙ c.requires.own.size ∙ sym (ap (λ z. z.size) c.self.view_is) in
    let problem = c.requires.own.problem ∙ sym (ap (λ z. z.problem) c.self.view_is) in
    let width = ap (λ z. key_width z.problem) c.self.view_is in (
      search rules,
      search rules,
      may_answer _ _ _ _ _ _ _ t read c.args.v key _ _ c.w.invariant.0 stage (subst (λ (n : ℕ). t < n) size k.1)
          (subst (λ (q : ClauseProblem). IsKeyOf q key) problem has.over)
          (subst (λ (q : ClauseProblem). (j : ℕ) → j < key_width q → Contains read (j, word_of key j)) problem has.whole)
          (subst (λ (q : ClauseProblem). IsVerdictOf q key c.args.v) problem r.4)
          (c.at-at.ensures.place ∙ at_slot 0 (sym width) (sym k.0))
          (ap (λ (n : ℕ). 2 + 256 * n) (sym c.w.invariant.1))
          c.code_of.ensures,
    )
