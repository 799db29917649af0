use Rattle.std.proofs.Common.{◌≡◌, ◌-◌, ◌++◌, reverse, drop}
use Rattle.model_gen.specs.inside.Nodes.{nodes_of}
use Rattle.model_gen.proofs.tree.push_children.Given as goal

-- the last children are on the stack, so many of them
abbrev pub invariant-loop-i : goal.invariant-loop-i
invariant-loop-i l = l.waiting.items ≡ l.fn.waiting.items ++ reverse (drop (l.count - l.i) (nodes_of l.size l.node))
