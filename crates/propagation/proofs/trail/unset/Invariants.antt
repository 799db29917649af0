use Rattle.std.proofs.Common.{take}
use Rattle.propagation.specs.inside.Trails.{AreUnset}
use Rattle.propagation.proofs.trail.unset.Given as goal

abbrev pub invariant-loop-literal : goal.invariant-loop-literal
invariant-loop-literal l = AreUnset l.initial.values (take l.literal-index l.literals) l.values
