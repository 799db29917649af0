use Rattle.std.proofs.Common.{◌≡◌, ◌+◌, ◌*◌, ◌-◌, length}
use Rattle.hs_tree.specs.inside.Told.{HasAll, answers_of}
use Rattle.hs_tree.proofs.sets.with_known.Given as goal

abbrev pub invariant-loop-key : goal.invariant-loop-key
invariant-loop-key l = (l.label.among ≡ l.fn.label.among) × HasAll l.label.told (answers_of l.told)

abbrev pub decreases-loop-key : goal.decreases-loop-key
decreases-loop-key l = (2 * length l.label.among.members + 1) - length l.label.told
