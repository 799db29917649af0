use Rattle.std.proofs.Common.{rules, sym, ap, ◌∙◌, arith}
use Rattle.check_table.proofs.Mains.{may_leave}
use Rattle.check_table.proofs.table.CheckTable.leave.Goals as goal

pub join_seat-requires : goal.join_seat-requires
join_seat-requires c =
    let big = c.self.invariant.2 in (
      search rules,
      search rules,
      ap (λ z. z.1) c.w.invariant.0,
      omega arith,
      may_leave _ _ _ _ _ _ _ _ (ap (λ z. z.0) c.main.invariant.1) (ap (λ z. z.0) c.w.invariant.0) c.main.invariant.0
          (λ t read e. c.requires.rests (t, read, ap (λ z. z.sees.stage) (sym c.w.view_is) ∙ e)),
    )
