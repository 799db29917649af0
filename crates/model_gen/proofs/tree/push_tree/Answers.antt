use Rattle.std.proofs.Common.{◌≡◌, ◌∙◌, ◌++◌, ◌∷◌, [], List, ℕ, reverse, ap, sym, arith}
use Rattle.std.specs.Prelude.{All}
use Rattle.std.proofs.lemmas.List.{append-nil, nil_from_length}
use Rattle.std.proofs.lemmas.List.Elements.{All-nil, All-cons}
use Rattle.model_gen.specs.declared.tree.Node.{Node}
use Rattle.model_gen.specs.Texts.{tree}
use Rattle.model_gen.specs.inside.Nodes.{IsNode, nodes_of, all_with, node_at}
use Rattle.model_gen.proofs.NodeLaws.{all_with-more, trees-less, waiting-next}
use Rattle.model_gen.proofs.tree.push_tree.Goals as goal

next : (size : ℕ) (waiting rest : List Node) (node : Node) → waiting ≡ rest ++ node ∷ [] → All (IsNode size) waiting → IsNode size node × All (IsNode size) (rest ++ reverse (nodes_of size node))
next size waiting rest node e all = waiting-next size rest node (rw e at all)

pub nodes-init : goal.nodes-init
nodes-init c =
    let root : Node = node_at 0 0 in
    let one : c.push.new.self.items ≡ root ∷ [] = c.in_ok-push.ensures.items ∙ ap (λ (t : List Node). t ++ root ∷ []) c.new-waiting.ensures.items in
    rw one (
      ap (λ (t : List ℕ). c.args.text.now ++ t) (append-nil (tree c.args.kinds.now c.args.size 0 0)),
      All-cons (IsNode c.args.size) root [] (omega arith, omega arith) (All-nil (IsNode c.args.size)),
    )

pub push_node-requires-clause-node : goal.push_node-requires-clause-node
push_node-requires-clause-node c = (next c.args.size c.nodes.waiting.items c.pop.new.self.items c.in-Some.node c.in-Some.ensures.items c.nodes.invariant.1).0

pub push_children-requires-clause-node : goal.push_children-requires-clause-node
push_children-requires-clause-node c = (next c.args.size c.nodes.waiting.items c.pop.new.self.items c.in-Some.node c.in-Some.ensures.items c.nodes.invariant.1).0

pub nodes-smaller : goal.nodes-smaller
nodes-smaller c =
    let is = next c.args.size c.nodes.waiting.items c.pop.new.self.items c.in-Some.node c.in-Some.ensures.items c.nodes.invariant.1 in
    rw (c.in_ok-push_children.ensures, c.in-Some.ensures.items) (trees-less c.args.kinds.now c.args.size c.pop.new.self.items c.in-Some.node is.0.0)

pub nodes-preserved : goal.nodes-preserved
nodes-preserved c =
    let is = next c.args.size c.nodes.waiting.items c.pop.new.self.items c.in-Some.node c.in-Some.ensures.items c.nodes.invariant.1 in (
      rw (c.in_ok-push_node.ensures, c.in_ok-push_children.ensures)
          (all_with-more c.args.kinds.now c.args.size c.nodes.text c.pop.new.self.items c.in-Some.node is.0.0
          ∙ ap (all_with c.args.kinds.now c.args.size c.nodes.text) (sym c.in-Some.ensures.items) ∙ c.nodes.invariant.0),
      rw c.in_ok-push_children.ensures is.1,
    )

pub returns : goal.returns
returns c =
    let none : c.nodes.waiting.items ≡ [] = nil_from_length c.nodes.waiting.items (sym c.nodes.waiting.ok.0 ∙ c.in_default.ensures.cases.0) in
    let at_end : all_with c.args.kinds.now c.args.size c.nodes.text [] ≡ c.nodes.text = append-nil c.nodes.text in
    sym at_end ∙ ap (all_with c.args.kinds.now c.args.size c.nodes.text) (sym none) ∙ c.nodes.invariant.0
