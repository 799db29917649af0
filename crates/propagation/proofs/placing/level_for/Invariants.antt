use Rattle.std.proofs.Common.{◌≤◌}
use Rattle.propagation.proofs.placing.level_for.Given as goal

abbrev pub invariant-loop-level : goal.invariant-loop-level
invariant-loop-level l = l.level ≤ l.most

abbrev pub decreases-loop-level : goal.decreases-loop-level
decreases-loop-level l = l.level
