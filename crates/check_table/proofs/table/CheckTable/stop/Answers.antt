use Rattle.std.proofs.Common.{rules, arith}
use Rattle.check_table.proofs.Mains.{may_stop}
use Rattle.check_table.proofs.table.CheckTable.stop.Goals as goal

pub store-requires : goal.store-requires
store-requires c = let big = c.self.invariant.2 in (search rules, omega arith, may_stop _ _ _ _ _ _ c.main.invariant.1 c.main.invariant.0)
