use Rattle.std.proofs.Common.{◌≡◌, ◌-◌, ◌≤◌, [], drop}
use Rattle.hs_tree.specs.inside.Left.{made}
use Rattle.hs_tree.specs.inside.Places.{sets_of}
use Rattle.hs_tree.specs.inside.Told.{AreOver}
use Rattle.hs_tree.proofs.levels.children.Given as goal

abbrev pub invariant-loop-place : goal.invariant-loop-place
invariant-loop-place l =
    (l.level.before ≤ l.place)
    × AreOver l.level.n l.next.keys
    × (made (sets_of l.found.conflicts) (sets_of (drop (l.place - l.level.before) l.level.sets)) (drop l.place l.found.labels) (sets_of l.next.keys)
    ≡ made (sets_of l.found.conflicts) (sets_of l.level.sets) (drop l.level.before l.found.labels) [])
