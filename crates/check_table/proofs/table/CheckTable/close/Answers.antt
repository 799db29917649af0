use Rattle.std.proofs.Common.{arith}
use Rattle.check_table.proofs.table.CheckTable.close.Goals as goal

pub free-requires : goal.free-requires
free-requires c k less = let none = c.self.invariant.5 in let counts = c.close_with.ensures.counts.1 in absurd (omega arith)
