use Rattle.std.proofs.Common.{rules, arith}
use Rattle.check_table.proofs.Seating.{still_runs}
use Rattle.check_table.proofs.Workers.{may_look_at_stop}
use Rattle.check_table.proofs.table.CheckTable.stopped.Goals as goal

pub load-found-requires : goal.load-found-requires
load-found-requires c = let big = c.self.invariant.2 in (search rules, omega arith, may_look_at_stop _ _ _ _ _ _ c.w.invariant.0)

pub marked-requires-clause-running : goal.marked-requires-clause-running
marked-requires-clause-running c = still_runs _ _ _ _ c.w.invariant.0 c.load-found.ensures.2.0 c.w.invariant.4 c.if-w.true
