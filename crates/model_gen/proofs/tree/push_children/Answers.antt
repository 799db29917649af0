use Rattle.std.proofs.Common.{◌+◌, ◌-◌, ◌*◌, ◌∙◌, ◌++◌, ◌∷◌, [], List, ap, arith}
use Rattle.model_gen.specs.declared.tree.Node.{Node}
use Rattle.model_gen.specs.inside.Nodes.{node_at}
use Rattle.model_gen.proofs.TreeLaws.{length-children}
use Rattle.model_gen.proofs.NodeLaws.{last_first-none, last_first-more, last_first-all}
use Rattle.model_gen.proofs.tree.push_children.Goals as goal

pub overflow_add-node : goal.overflow_add-node
overflow_add-node c =
    let few = length-children c.args.size c.args.node.feature in
    omega (arith, few, c.child_count-count.ensures, c.requires.node, c.requires.few)

pub loop-i-init : goal.loop-i-init
loop-i-init c = last_first-none c.args.waiting.now.items c.args.size c.child_count-count.result c.args.node c.child_count-count.ensures

pub loop-i-preserved : goal.loop-i-preserved
loop-i-preserved c =
    c.in_ok-push.ensures.items
    ∙ ap (λ (t : List Node). t ++ node_at (c.args.node.depth + 1) (4 * c.args.node.feature + (c.child_count-count.result - c.loop-i.i)) ∷ []) c.loop-i.invariant
    ∙ last_first-more c.args.waiting.now.items c.args.size c.child_count-count.result c.loop-i.i c.args.node c.child_count-count.ensures c.loop-i-test.true

pub returns : goal.returns
returns c = c.loop-i.invariant ∙ last_first-all c.args.waiting.now.items c.args.size c.child_count-count.result c.loop-i.i c.args.node (omega arith)
