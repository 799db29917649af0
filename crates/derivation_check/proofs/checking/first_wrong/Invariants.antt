use Rattle.std.proofs.Common.{take}
use Rattle.derivation_check.proofs.LineLaws.{AreChecked}
use Rattle.derivation_check.proofs.checking.first_wrong.Given as goal

abbrev pub invariant-loop-number : goal.invariant-loop-number
invariant-loop-number l = AreChecked l.fn.problem l.fn.key l.propagator (take l.number l.lines)
