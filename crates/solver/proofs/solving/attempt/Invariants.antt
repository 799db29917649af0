use Rattle.std.proofs.Common.{◌≤◌}
use Rattle.solver.proofs.SolveLaws.{IsGoing, left}
use Rattle.solver.proofs.solving.attempt.Given as goal

abbrev pub invariant-loop-ending : goal.invariant-loop-ending
invariant-loop-ending g l = record {
  going : IsGoing l.fn.search.trial.problem l.fn.key l.fn.number l.search;
  never_falls : g.S.Stop.raised l.fn.stop ≤ g.S.Stop.raised l.stop;
  stays : g.S.Stop.stays l.fn.stop l.stop;
}

abbrev pub decreases-loop-ending : goal.decreases-loop-ending
decreases-loop-ending g l = left l.search
