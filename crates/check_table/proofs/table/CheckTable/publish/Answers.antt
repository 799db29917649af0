use Rattle.std.proofs.Common.{length, rules, sym, ap, ◌∙◌, subst, arith}
use Rattle.clauses.specs.Problem.{ClauseProblem}
use Rattle.check_table.specs.Places.{key_width, IsKeyOf}
use Rattle.check_table.proofs.Seating.{at_slot}
use Rattle.check_table.proofs.Mains.{may_post}
use Rattle.check_table.proofs.table.CheckTable.publish.Goals as goal

pub store-requires : goal.store-requires
store-requires c =
    let size = ap (λ z. z.size) c.self.view_is in
    let width = ap (λ z. key_width z.problem) c.self.view_is in
    let problem = sym (ap (λ z. z.problem) c.self.view_is) in
    let written = ap (λ z. z.sees.written) c.main.view_is in
    let entries = ap (λ z. length z.sees.entries) c.main.view_is in
    let key = c.requires.whole.0 in
    let few = c.requires.few in (
      search rules,
      search rules,
      may_post _ _ _ _ _ _ _ key c.main.invariant.1 c.main.invariant.0 (subst (λ (q : ClauseProblem). IsKeyOf q key) problem c.requires.whole.1) (written ∙ c.requires.whole.2) (omega arith)
          (c.at-at.ensures.place ∙ at_slot 0 (sym width) c.main.invariant.2),
    )
