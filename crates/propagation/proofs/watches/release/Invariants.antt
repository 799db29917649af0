use Rattle.std.proofs.Common.{take}
use Rattle.propagation.specs.inside.Watching.{IsReleased}
use Rattle.propagation.proofs.watches.release.Given as goal

abbrev pub invariant-loop-literal : goal.invariant-loop-literal
invariant-loop-literal l = IsReleased l.initial.heads (take l.literal-index l.watched) l.heads
