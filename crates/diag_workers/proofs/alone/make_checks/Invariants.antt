-- so far each key that was wanted was told with its verdict, and nothing else, and each had its turn
use Rattle.std.proofs.Common.{◌≡◌, ◌-◌, length}
use Rattle.script.specs.Sequential.{check_count}
use Rattle.diag_workers.specs.inside.Course.{IsBetween}
use Rattle.diag_workers.proofs.alone.make_checks.Given as goal

abbrev pub invariant-checks : goal.invariant-checks
invariant-checks l =
    record {
      problem : l.searcher ≡ l.initial.searcher;
      plan : l.run.plan ≡ l.initial.run.plan;
      between : IsBetween l.initial.searcher l.options.ahead l.options.entries l.run l.posting;
    }

abbrev pub decreases-checks : goal.decreases-checks
decreases-checks l = check_count l.initial.run.plan - length l.run.told
