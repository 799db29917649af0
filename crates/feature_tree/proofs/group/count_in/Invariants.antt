use Rattle.std.proofs.Common.{◌≡◌, take}
use Rattle.feature_tree.specs.Product.{count_in as count_of}
use Rattle.feature_tree.proofs.group.count_in.Given as goal

abbrev pub invariant-loop-child : goal.invariant-loop-child
invariant-loop-child l = l.count ≡ count_of l.in_set (take l.child-index l.children)
