use Rattle.std.proofs.Common.{◌≡◌, drop}
use Rattle.hs_tree.specs.Tree.{known_label}
use Rattle.hs_tree.specs.inside.Places.{sets_of}
use Rattle.hs_tree.proofs.found.first_apart.Given as goal

abbrev pub invariant-loop-place : goal.invariant-loop-place
invariant-loop-place l = known_label (sets_of (drop l.place l.conflicts)) l.set.members ≡ known_label (sets_of l.conflicts) l.set.members
