-- How the features of a model grow in the order of a file: the root, and then child after child, each in a new group of
-- its parent or in the parent's last one.
use Rattle.std.specs.Prelude.{◌≢◌, ℕ, zero, suc, List, [], ◌∷◌, ◌++◌, length, All, Option, Some, None}
use Rattle.feature_tree.specs.declared.group.Group.{Group}
use Rattle.feature_tree.specs.declared.group.GroupKind.{GroupKind}
use Rattle.feature_tree.specs.declared.feature.Feature.{Feature}

-- the list with the item at this place changed
abbrev pub changed_at : {X : Type 0} → (X → X) → List X → ℕ → List X
changed_at change [] i = []
changed_at change (x ∷ xs) zero = change x ∷ xs
changed_at change (x ∷ xs) (suc i) = x ∷ changed_at change xs i

-- the list with its last item changed
abbrev pub changed_last : {X : Type 0} → (X → X) → List X → List X
changed_last change [] = []
changed_last change (x ∷ []) = change x ∷ []
changed_last change (x ∷ y ∷ ys) = x ∷ changed_last change (y ∷ ys)

-- a feature with no group yet
abbrev pub new_feature : List ℕ → Option ℕ → Feature
new_feature name parent = record { name = name; parent = parent; groups = [] }

-- the root alone
abbrev pub with_root : List ℕ → List Feature
with_root name = new_feature name None ∷ []

-- the group with one more child, the last
abbrev pub with_one_more : ℕ → Group → Group
with_one_more child group = record group { children = group.children ++ child ∷ [] }

-- the feature with one more group, the last
abbrev pub with_last_group : Group → Feature → Feature
with_last_group group feature = record feature { groups = feature.groups ++ group ∷ [] }

-- the feature with one more child in its last group
abbrev pub with_last_child : ℕ → Feature → Feature
with_last_child child feature = record feature { groups = changed_last (with_one_more child) feature.groups }

-- a new feature as the only child in a new group of this parent
abbrev pub with_group : List Feature → ℕ → GroupKind → ℕ → Option ℕ → List ℕ → List Feature
with_group features parent kind low high name =
    let group : Group = record { kind = kind; low = low; high = high; children = length features ∷ [] } in
    changed_at (with_last_group group) features parent ++ new_feature name (Some parent) ∷ []

-- a new feature as one more child in the last group of this parent
abbrev pub with_child : List Feature → ℕ → List ℕ → List Feature
with_child features parent name = changed_at (with_last_child (length features)) features parent ++ new_feature name (Some parent) ∷ []

-- no feature has the name yet
abbrev pub IsNewName : List Feature → List ℕ → Type 0
IsNewName features name = All (λ feature. feature.name ≢ name) features
