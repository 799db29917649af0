use Rattle.std.proofs.Common.{◌≡◌}
use Rattle.check_table.specs.Found.{IsHolding}
use Rattle.check_table.specs.Seats.{IsWorkerOf}
use Rattle.workers.proofs.working.serve_ticket.Given as goal

abbrev pub invariant-loop : goal.invariant-loop
invariant-loop g l = record {
  own : IsWorkerOf l.table l.w;
  holding : IsHolding l.w.sees;
  number : l.w.sees.number ≡ l.initial.w.sees.number;
  done : l.w.sees.done ≡ l.initial.w.sees.done;
  problem : l.searcher ≡ l.initial.searcher;
}
