use Rattle.std.proofs.Common.{All, Contains, take}
use Rattle.pref_sets.proofs.tests.has_all.Given as goal

abbrev pub invariant-loop-item : goal.invariant-loop-item
invariant-loop-item l = All (Contains l.set) (take l.item-index l.needed)
