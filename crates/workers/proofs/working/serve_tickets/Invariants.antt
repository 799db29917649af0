use Rattle.std.proofs.Common.{◌≡◌, false}
use Rattle.check_table.specs.Found.{IsIdle}
use Rattle.check_table.specs.Seats.{IsWorkerOf}
use Rattle.workers.proofs.working.serve_tickets.Given as goal

abbrev pub invariant-loop : goal.invariant-loop
invariant-loop g l = record {
  own : IsWorkerOf l.table l.w;
  idle : IsIdle l.w.sees;
  more : l.w.sees.done ≡ false;
  number : l.w.sees.number ≡ l.initial.w.sees.number;
  problem : l.searcher ≡ l.initial.searcher;
}
