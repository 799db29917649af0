use Rattle.std.proofs.Common.{rules, ap, arith}
use Rattle.check_table.proofs.Mains.{may_enter}
use Rattle.check_table.proofs.table.CheckTable.seat.Goals as goal

pub split_seat-seat-requires : goal.split_seat-seat-requires
split_seat-seat-requires c =
    let big = c.self.invariant.2 in let made = ap (λ z. z.sees.made) c.main.view_is in let few = c.requires.few in
    (search rules, omega arith, may_enter _ _ _ _ _ (ap (λ z. z.0) c.main.invariant.1) c.main.invariant.0 (omega arith))
