use Rattle.std.proofs.Common.{take}
use Rattle.derivation_check.proofs.NegationLaws.{IsFalsified}
use Rattle.derivation_check.proofs.negations.follows.Given as goal

abbrev pub invariant-loop-literal : goal.invariant-loop-literal
invariant-loop-literal l = IsFalsified l.fn.propagator l.propagator (take l.literal-index l.line)
