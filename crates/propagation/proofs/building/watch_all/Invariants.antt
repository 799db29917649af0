use Rattle.std.proofs.Common.{take}
use Rattle.propagation.specs.inside.Building.{AreWatched}
use Rattle.propagation.proofs.building.watch_all.Given as goal

abbrev pub invariant-loop-number : goal.invariant-loop-number
invariant-loop-number l = AreWatched l.fn.problem (take l.number l.fn.problem.clauses) l.own l.trail
