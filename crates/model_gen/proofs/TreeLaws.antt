-- The tree of the features.
use Rattle.std.proofs.Common.{◌≡◌, ◌∙◌, refl, ap, ℕ, zero, suc, ◌+◌, ◌-◌, ◌*◌, ◌<◌, ◌≤◌, min, List, ◌++◌, length, arith}
use Rattle.std.specs.List.{range_with_len, flat_map}
use Rattle.std.proofs.lemmas.List.FromFn.{length-range_with_len}
use Rattle.feature_tree.specs.declared.group.GroupKind.{GroupKind}
use Rattle.model_gen.specs.Lines.{children}
use Rattle.model_gen.specs.Texts.{feature_lines, tree, tree_within}

pub length-children : (size feature : ℕ) → length (children size feature) ≡ min 4 (size - 4 * feature)
length-children size feature = length-range_with_len (4 * feature + 1) (min 4 (size - 4 * feature))

-- two functions that agree on a range make the same of it
flat_map-range : (f g : ℕ → List ℕ) (a m : ℕ) → ((i : ℕ) → a ≤ i → i < a + m → f i ≡ g i) → flat_map f (range_with_len a m) ≡ flat_map g (range_with_len a m)
flat_map-range f g a zero h = refl
flat_map-range f g a (suc m) h =
    let rest : flat_map f (range_with_len (a + 1) m) ≡ flat_map g (range_with_len (a + 1) m) = flat_map-range f g (a + 1) m (λ i l u. h i (omega arith) (omega arith)) in
    ap (λ t. t ++ flat_map f (range_with_len (a + 1) m)) (h a (omega arith) (omega arith)) ∙ ap (λ t. g a ++ t) rest

-- any two counts that are great enough give the same tree
counts-agree : (count other : ℕ) (kinds : List GroupKind) (size depth feature : ℕ) → feature ≤ size → size - feature < count → size - feature < other → tree_within count kinds size depth feature ≡ tree_within other kinds size depth feature
counts-agree zero other kinds size depth feature le l m = absurd (omega arith)
counts-agree (suc count) zero kinds size depth feature le l m = absurd (omega arith)
counts-agree (suc count) (suc other) kinds size depth feature le l m =
    ap (λ t. feature_lines kinds size depth feature ++ t)
    (flat_map-range (tree_within count kinds size (depth + 1)) (tree_within other kinds size (depth + 1)) (4 * feature + 1) (min 4 (size - 4 * feature))
    (λ child low high. counts-agree count other kinds size (depth + 1) child (omega arith) (omega arith) (omega arith)))

pub tree-enough : (count : ℕ) (kinds : List GroupKind) (size depth feature : ℕ) → feature ≤ size → size - feature < count → tree_within count kinds size depth feature ≡ tree kinds size depth feature
unfolding tree
tree-enough count kinds size depth feature le l = counts-agree count (suc (size - feature)) kinds size depth feature le l (omega arith)

pub tree-children : (kinds : List GroupKind) (size depth feature : ℕ) → feature ≤ size → tree kinds size depth feature ≡ feature_lines kinds size depth feature ++ flat_map (tree kinds size (depth + 1)) (children size feature)
unfolding tree
tree-children kinds size depth feature le =
    ap (λ t. feature_lines kinds size depth feature ++ t)
    (flat_map-range (tree_within (size - feature) kinds size (depth + 1)) (tree kinds size (depth + 1)) (4 * feature + 1) (min 4 (size - 4 * feature))
    (λ child low high. tree-enough (size - feature) kinds size (depth + 1) child (omega arith) (omega arith)))
