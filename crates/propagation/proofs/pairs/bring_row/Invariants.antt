use Rattle.std.proofs.Common.{take, true}
use Rattle.propagation.specs.inside.Pairing.{IsBrought}
use Rattle.propagation.proofs.pairs.bring_row.Given as goal

abbrev pub invariant-loop-literal : goal.invariant-loop-literal
invariant-loop-literal l = IsBrought (take l.literal-index l.row) l.initial.trail l.trail true
