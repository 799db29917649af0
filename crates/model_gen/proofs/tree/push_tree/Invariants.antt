use Rattle.std.proofs.Common.{◌≡◌, ◌++◌, reverse, length}
use Rattle.std.specs.Prelude.{All}
use Rattle.model_gen.specs.inside.Nodes.{IsNode, trees, all_with}
use Rattle.model_gen.specs.Texts.{tree}
use Rattle.model_gen.proofs.tree.push_tree.Given as goal

-- what is written and what waits is the whole; what waits gets shorter with each feature
abbrev pub invariant-nodes : goal.invariant-nodes
invariant-nodes l =
    (all_with l.kinds l.size l.text l.waiting.items ≡ l.fn.text ++ tree l.kinds l.size 0 0)
    × All (IsNode l.size) l.waiting.items

abbrev pub decreases-nodes : goal.decreases-nodes
decreases-nodes l = length (trees l.kinds l.size (reverse l.waiting.items))
