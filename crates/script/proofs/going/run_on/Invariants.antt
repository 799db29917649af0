use Rattle.std.proofs.Common.{◌≡◌}
use Rattle.script.specs.Job.{answers_of}
use Rattle.script.specs.inside.Going.{HasAll, IsTable, lacking, told_beside}
use Rattle.script.proofs.going.run_on.Given as goal

abbrev pub invariant-loop-halt : goal.invariant-loop-halt
invariant-loop-halt g l = record {
  start : g.R.Recursion.start l.state ≡ g.R.Recursion.start l.initial.state;
  table : IsTable (g.R.Recursion.start l.state).0.n (told_beside l.told);
  has : HasAll (g.R.Recursion.answers l.state) (answers_of (told_beside l.told));
}

abbrev pub decreases-loop-halt : goal.decreases-loop-halt
decreases-loop-halt g l = lacking (g.R.Recursion.answers l.state) (told_beside l.told)
