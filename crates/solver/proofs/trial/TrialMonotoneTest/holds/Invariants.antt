use Rattle.std.proofs.Common.{take}
use Rattle.solver.proofs.TrialLaws.{IsTried}
use Rattle.solver.proofs.trial.TrialMonotoneTest.holds.Given as goal

abbrev pub invariant-loop-number : goal.invariant-loop-number
invariant-loop-number l = IsTried l.fn.self l.self l.set (take l.number-index l.set)
