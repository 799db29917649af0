use Rattle.std.proofs.Common.{rules, ap, ◌∙◌, arith}
use Rattle.check_table.proofs.Workers.{may_draw}
use Rattle.check_table.proofs.table.CheckTable.draw.Goals as goal

pub fetch_add-found-requires : goal.fetch_add-found-requires
fetch_add-found-requires c =
    let big = c.self.invariant.2 in (
      search rules,
      omega arith,
      may_draw _ _ _ _ _ _ c.w.invariant.0 (ap (λ z. z.sees.stage) c.w.view_is ∙ c.requires.idle) (ap (λ z. z.sees.done) c.w.view_is ∙ c.requires.more),
    )
