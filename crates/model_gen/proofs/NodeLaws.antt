-- The stack of features whose lines are still to be written.
use Rattle.std.proofs.Common.{◌≡◌, ◌∙◌, refl, sym, ap, ℕ, zero, suc, ◌+◌, ◌-◌, ◌*◌, ◌<◌, ◌≤◌, min, List, [], ◌∷◌, ◌++◌, length, get_or, map, reverse, drop, append_assoc, arith}
use Rattle.std.specs.Prelude.{All}
use Rattle.std.specs.List.{range_with_len, flat_map}
use Rattle.std.proofs.Math.Seq.{drop-cons, drop-length}
use Rattle.std.proofs.lemmas.List.{append-nil, length-append, reverse-append, reverse-reverse}
use Rattle.std.proofs.lemmas.List.Concat.{flat_map-append}
use Rattle.std.proofs.lemmas.List.Elements.{All-nil, All-cons, All-head, All-tail, All-append}
use Rattle.std.proofs.lemmas.List.FromFn.{get_or-map-range_with_len, length-map-range_with_len}
use Rattle.lists.proofs.Appends.{All-append_left, All-append_right}
use Rattle.feature_tree.specs.declared.group.GroupKind.{GroupKind}
use Rattle.model_gen.specs.declared.tree.Node.{Node}
use Rattle.model_gen.specs.Lines.{children}
use Rattle.model_gen.specs.Texts.{feature_lines, line, feature_name, tree}
use Rattle.model_gen.specs.inside.Nodes.{IsNode, node_at, nodes_of, trees, all_with}
use Rattle.model_gen.proofs.TreeLaws.{length-children, tree-children}

-- ---- a feature's children

length-nodes : (size : ℕ) (node : Node) → length (nodes_of size node) ≡ length (children size node.feature)
length-nodes size node =
    length-map-range_with_len (node_at (node.depth + 1)) (4 * node.feature + 1) (min 4 (size - 4 * node.feature))
    ∙ sym (length-children size node.feature)

pub last_first-none : (before : List Node) (size count : ℕ) (node : Node) → count ≡ length (children size node.feature) → before ≡ before ++ reverse (drop (count - 0) (nodes_of size node))
last_first-none before size count node e =
    let all : count - 0 ≡ length (nodes_of size node) = omega (arith, e, length-nodes size node) in
    sym (ap (λ k. before ++ reverse (drop k (nodes_of size node))) all
    ∙ ap (λ (t : List Node). before ++ reverse t) (drop-length (nodes_of size node)) ∙ append-nil before)

pub last_first-more : (before : List Node) (size count k : ℕ) (node : Node) → count ≡ length (children size node.feature) → k < count → (before ++ reverse (drop (count - k) (nodes_of size node))) ++ node_at (node.depth + 1) (4 * node.feature + (count - k)) ∷ [] ≡ before ++ reverse (drop (count - (k + 1)) (nodes_of size node))
last_first-more before size count k node e l =
    let nodes : List Node = nodes_of size node in
    let next : Node = node_at (node.depth + 1) (4 * node.feature + (count - k)) in
    let j : ℕ = count - (k + 1) in
    let many : length nodes ≡ count = length-nodes size node ∙ sym e in
    let up : suc j ≡ count - k = omega arith in
    let at : (4 * node.feature + 1) + j ≡ 4 * node.feature + (count - k) = omega arith in
    let here : get_or nodes j next ≡ next =
    get_or-map-range_with_len (node_at (node.depth + 1)) (4 * node.feature + 1) (min 4 (size - 4 * node.feature)) j (4 * node.feature + (count - k)) next (omega (arith, length-children size node.feature)) at in
    let split : drop j nodes ≡ next ∷ drop (count - k) nodes =
    drop-cons nodes j next (omega (arith, many)) ∙ ap (λ x. x ∷ drop (suc j) nodes) here ∙ ap (λ m. next ∷ drop m nodes) up in
    append_assoc before (reverse (drop (count - k) nodes)) (next ∷ [])
    ∙ ap (λ (t : List Node). before ++ t) (sym (reverse-append (next ∷ []) (drop (count - k) nodes)) ∙ ap reverse (sym split))

pub last_first-all : (before : List Node) (size count k : ℕ) (node : Node) → k ≡ count → before ++ reverse (drop (count - k) (nodes_of size node)) ≡ before ++ reverse (nodes_of size node)
last_first-all before size count k node e =
    let none : count - k ≡ 0 = omega arith in
    ap (λ m. before ++ reverse (drop m (nodes_of size node))) none

-- each child is a node of the tree
nodes-from : (size depth a m : ℕ) → depth < a → a + m ≤ size + 1 → All (IsNode size) (map (node_at (depth + 1)) (range_with_len a m))
nodes-from size depth a zero l h = All-nil (IsNode size)
nodes-from size depth a (suc m) l h = All-cons (IsNode size) _ _ (omega arith, omega arith) (nodes-from size depth (a + 1) m (omega arith) (omega arith))

none_or_some : (size depth feature room : ℕ) → room ≡ size - 4 * feature → depth ≤ feature → feature ≤ size → All (IsNode size) (map (node_at (depth + 1)) (range_with_len (4 * feature + 1) (min 4 room)))
none_or_some size depth feature zero e deep within = All-nil (IsNode size)
none_or_some size depth feature (suc room) e deep within = nodes-from size depth (4 * feature + 1) (min 4 (suc room)) (omega arith) (omega arith)

pub nodes_of-are : (size : ℕ) (node : Node) → IsNode size node → All (IsNode size) (nodes_of size node)
nodes_of-are size node is =
    let deep : node.depth ≤ node.feature = is.1 in
    let within : node.feature ≤ size = is.0 in
    none_or_some size node.depth node.feature (size - 4 * node.feature) refl deep within

-- ---- what is written and what waits

flat_map-nodes : (kinds : List GroupKind) (size depth a m : ℕ) → trees kinds size (map (node_at depth) (range_with_len a m)) ≡ flat_map (tree kinds size depth) (range_with_len a m)
flat_map-nodes kinds size depth a zero = refl
flat_map-nodes kinds size depth a (suc m) = ap (λ t. tree kinds size depth a ++ t) (flat_map-nodes kinds size depth (a + 1) m)

-- the tree of a node is its lines and the trees of its children
pub tree-nodes : (kinds : List GroupKind) (size : ℕ) (node : Node) → node.feature ≤ size → tree kinds size node.depth node.feature ≡ feature_lines kinds size node.depth node.feature ++ trees kinds size (nodes_of size node)
tree-nodes kinds size node within =
    tree-children kinds size node.depth node.feature within
    ∙ ap (λ t. feature_lines kinds size node.depth node.feature ++ t)
    (sym (flat_map-nodes kinds size (node.depth + 1) (4 * node.feature + 1) (min 4 (size - 4 * node.feature))))

trees-append : (kinds : List GroupKind) (size : ℕ) (first second : List Node) → trees kinds size (first ++ second) ≡ trees kinds size first ++ trees kinds size second
trees-append kinds size first second = flat_map-append (λ (node : Node). tree kinds size node.depth node.feature) first second

last-first : (kinds : List GroupKind) (size : ℕ) (rest : List Node) (node : Node) → trees kinds size (reverse (rest ++ node ∷ [])) ≡ tree kinds size node.depth node.feature ++ trees kinds size (reverse rest)
last-first kinds size rest node = ap (trees kinds size) (reverse-append rest (node ∷ []))

children-first : (kinds : List GroupKind) (size : ℕ) (rest nodes : List Node) → trees kinds size (reverse (rest ++ reverse nodes)) ≡ trees kinds size nodes ++ trees kinds size (reverse rest)
children-first kinds size rest nodes =
    ap (trees kinds size) (reverse-append rest (reverse nodes) ∙ ap (λ (t : List Node). t ++ reverse rest) (reverse-reverse nodes))
    ∙ trees-append kinds size nodes (reverse rest)

pub all_with-more : (kinds : List GroupKind) (size : ℕ) (text : List ℕ) (rest : List Node) (node : Node) → node.feature ≤ size → all_with kinds size (text ++ feature_lines kinds size node.depth node.feature) (rest ++ reverse (nodes_of size node)) ≡ all_with kinds size text (rest ++ node ∷ [])
all_with-more kinds size text rest node within =
    let lines : List ℕ = feature_lines kinds size node.depth node.feature in
    let below : List ℕ = trees kinds size (nodes_of size node) in
    let others : List ℕ = trees kinds size (reverse rest) in
    ap (λ t. (text ++ lines) ++ t) (children-first kinds size rest (nodes_of size node))
    ∙ append_assoc text lines (below ++ others)
    ∙ ap (λ t. text ++ t)
    (sym (append_assoc lines below others)
    ∙ ap (λ t. t ++ others) (sym (tree-nodes kinds size node within))
    ∙ sym (last-first kinds size rest node))

some-line : (text : List ℕ) (tabs : List ℕ) → 0 < length (tabs ++ text ++ 10 ∷ [])
some-line text tabs = omega (arith, length-append (tabs ++ text) (10 ∷ []))

some-first : (first second : List ℕ) → 0 < length first → 0 < length (first ++ second)
some-first first second l = omega (arith, length-append first second)

some-lines : (kinds : List GroupKind) (size depth feature : ℕ) → 0 < length (feature_lines kinds size depth feature)
some-lines kinds size depth feature = some-first (line (2 * depth + 1) (feature_name feature)) _ (some-line (feature_name feature) _)

pub trees-less : (kinds : List GroupKind) (size : ℕ) (rest : List Node) (node : Node) → node.feature ≤ size → length (trees kinds size (reverse (rest ++ reverse (nodes_of size node)))) < length (trees kinds size (reverse (rest ++ node ∷ [])))
trees-less kinds size rest node within =
    let lines : List ℕ = feature_lines kinds size node.depth node.feature in
    let below : List ℕ = trees kinds size (nodes_of size node) in
    let others : List ℕ = trees kinds size (reverse rest) in
    let after = ap length (children-first kinds size rest (nodes_of size node)) ∙ length-append below others in
    let before = ap length (last-first kinds size rest node) ∙ length-append (tree kinds size node.depth node.feature) others in
    let whole = ap length (tree-nodes kinds size node within) ∙ length-append lines below in
    omega (arith, after, before, whole, some-lines kinds size node.depth node.feature)

-- what waits at each turn is such a list, and nothing waits at the end
pub reverse-nodes : (size : ℕ) (nodes : List Node) → All (IsNode size) nodes → All (IsNode size) (reverse nodes)
reverse-nodes size [] all = all
reverse-nodes size (node ∷ nodes) all =
    rw (reverse-append (node ∷ []) nodes)
    (All-append (IsNode size) (reverse nodes) (node ∷ []) (reverse-nodes size nodes (All-tail (IsNode size) node nodes all))
    (All-cons (IsNode size) node [] (All-head (IsNode size) node nodes all) (All-nil (IsNode size))))

pub waiting-next : (size : ℕ) (rest : List Node) (node : Node) → All (IsNode size) (rest ++ node ∷ []) → IsNode size node × All (IsNode size) (rest ++ reverse (nodes_of size node))
waiting-next size rest node all =
    let last : IsNode size node = All-head (IsNode size) node [] (All-append_right (IsNode size) rest (node ∷ []) all) in
    (last, All-append (IsNode size) rest (reverse (nodes_of size node)) (All-append_left (IsNode size) rest (node ∷ []) all) (reverse-nodes size (nodes_of size node) (nodes_of-are size node last)))
