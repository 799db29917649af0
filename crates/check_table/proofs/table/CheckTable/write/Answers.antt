use Rattle.std.proofs.Common.{length, rules, sym, ap, ◌∙◌, arith}
use Rattle.check_table.specs.Places.{key_width}
use Rattle.check_table.proofs.Seating.{at_word}
use Rattle.check_table.proofs.Mains.{may_write}
use Rattle.check_table.proofs.table.CheckTable.write.Goals as goal

pub store-requires : goal.store-requires
store-requires c =
    let size = ap (λ z. z.size) c.self.view_is in
    let width = ap (λ z. key_width z.problem) c.self.view_is in
    let written = ap (λ z. length z.sees.written) c.main.view_is in
    let entries = ap (λ z. length z.sees.entries) c.main.view_is in
    let room = c.requires.room in let few = c.requires.few in let at = c.requires.at in (
      search rules,
      search rules,
      may_write _ _ _ _ _ _ _ _ c.main.invariant.1 c.main.invariant.0 (omega arith) (omega arith)
          (c.at-at.ensures.place ∙ at_word (sym width) c.main.invariant.2 (sym at ∙ sym written)),
    )
