use Rattle.std.proofs.Common.{◌≡◌, drop}
use Rattle.hs_tree.specs.Tree.{with_children}
use Rattle.hs_tree.specs.inside.Places.{sets_of}
use Rattle.hs_tree.specs.inside.Told.{AreOver}
use Rattle.hs_tree.proofs.levels.add_children.Given as goal

abbrev pub invariant-loop-position : goal.invariant-loop-position
invariant-loop-position l =
    AreOver l.set.n l.next.keys × (with_children l.set.members (drop l.position-index l.position-items) (sets_of l.next.keys) ≡ with_children l.set.members l.position-items (sets_of l.fn.next.keys))
