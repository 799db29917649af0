-- The stack of features whose lines are still to be written.
use Rattle.std.specs.Prelude.{ℕ, ◌+◌, ◌≤◌, List, ◌++◌, map, reverse}
use Rattle.std.specs.List.{flat_map}
use Rattle.feature_tree.specs.declared.group.GroupKind.{GroupKind}
use Rattle.model_gen.specs.Lines.{children}
use Rattle.model_gen.specs.Texts.{tree}
use Rattle.model_gen.specs.declared.tree.Node.{Node}

-- a feature of the tree; none is deeper than its number says
abbrev pub IsNode : ℕ → Node → Type 0
IsNode size node = (node.feature ≤ size) × (node.depth ≤ node.feature)

abbrev pub node_at : ℕ → ℕ → Node
node_at depth feature = record { feature = feature; depth = depth }

-- the children of a feature, in order
abbrev pub nodes_of : ℕ → Node → List Node
nodes_of size node = map (node_at (node.depth + 1)) (children size node.feature)

abbrev pub trees : List GroupKind → ℕ → List Node → List ℕ
trees kinds size nodes = flat_map (λ node. tree kinds size node.depth node.feature) nodes

-- what is written, and the trees of what waits, the last of which comes first
abbrev pub all_with : List GroupKind → ℕ → List ℕ → List Node → List ℕ
all_with kinds size written waiting = written ++ trees kinds size (reverse waiting)
