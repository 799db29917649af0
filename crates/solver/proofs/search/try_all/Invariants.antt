use Rattle.std.proofs.Common.{◌≡◌, take}
use Rattle.solver.proofs.search.try_all.Given as goal

abbrev pub invariant-loop-variable : goal.invariant-loop-variable
invariant-loop-variable l = l.trial ≡ record l.fn.trial { tried = take l.variable-index l.decisions }
