-- the turn that has begun can be served on the table
use Rattle.std.proofs.Common.{◌≡◌, false}
use Rattle.check_table.specs.Seats.{IsMainOf}
use Rattle.diag_workers.specs.inside.Course.{IsNext}
use Rattle.diag_workers.specs.inside.Ready.{IsReady}
use Rattle.diag_workers.proofs.turns.serve_turns.Given as goal

abbrev pub invariant-turns : goal.invariant-turns
invariant-turns g l =
    record {
      searcher : l.searcher ≡ l.table.problem;
      plan : l.course.run.plan ≡ l.initial.course.run.plan;
      own : IsMainOf l.table l.main;
      running : l.main.sees.stopped ≡ false;
      next : IsNext l.table.problem l.depth l.table.size l.course.run l.course.posting l.course.next;
      ready : IsReady l.main.sees l.course.posting l.course.next;
      made : l.main.sees.made ≡ l.initial.main.sees.made;
      left : l.main.sees.left ≡ l.initial.main.sees.left;
    }
