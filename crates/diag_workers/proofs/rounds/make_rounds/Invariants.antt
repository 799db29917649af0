-- the turn that has begun is the first of a round, or the job is done
use Rattle.std.proofs.Common.{◌≡◌}
use Rattle.diag_workers.specs.inside.Course.{BeginsRound, IsNext}
use Rattle.diag_workers.proofs.rounds.make_rounds.Given as goal

abbrev pub invariant-rounds : goal.invariant-rounds
invariant-rounds g l =
    record {
      plan : l.course.run.plan ≡ l.initial.course.run.plan;
      next : IsNext l.problem l.options.ahead l.options.entries l.course.run l.course.posting l.course.next;
      begins : BeginsRound l.course.run l.course.next;
    }
