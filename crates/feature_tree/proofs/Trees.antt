-- A tree with one more feature is a tree.
use Rattle.std.proofs.Common.{◌≡◌, ◌≢◌, ◌∙◌, refl, ap, sym, subst, ℕ, zero, suc, ◌+◌, ◌<◌, ◌≤◌, ◌⊎◌, inl, inr, Bool, true, false, cond, ◌==◌, List, [], ◌∷◌, ◌++◌, append_assoc, map, All, Option, Some, None, length, arith, append-nil, length-append}
use Rattle.std.specs.List.{slice_get, flat_map, count_by, AllPairs}
use Rattle.std.specs.Option.{option_map_or, option_and_then}
use Rattle.std.proofs.lemmas.Bool.{cases_eq}
use Rattle.std.proofs.lemmas.Bool.Decides.{Decides-eqb}
use Rattle.std.proofs.lemmas.Grind.{flat_map-append}
use Rattle.std.proofs.lemmas.List.Elements.{All-nil, All-cons, All-head, All-tail, All-append, All-push, All-weaker, All-map}
use Rattle.std.proofs.lemmas.List.Quantifiers.{all_pairs_push}
use Rattle.std.proofs.lemmas.List.Sums.{sum_by-cons, sum_by_push}
use Rattle.std.proofs.lemmas.Option.{slice_get_within}
use Rattle.feature_tree.specs.declared.group.Group.{Group}
use Rattle.feature_tree.specs.declared.group.GroupKind.{GroupKind}
use Rattle.feature_tree.specs.declared.feature.Feature.{Feature}
use Rattle.feature_tree.specs.WellFormed.{parent_of, groups_of, children_of, HasParent, HasBounds, EachFeature, IsGroupOf, feature_names, NamesDiffer, IsTree}
use Rattle.feature_tree.specs.Growing.{changed_at, changed_last, new_feature, with_one_more, with_last_group, with_last_child, with_group, with_child, IsNewName}
use Rattle.feature_tree.proofs.Changes.{slice_get-push_before, slice_get-push_last, slice_get-push_cases, length-changed_at, slice_get-changed_at_other, All-changed_last}

-- ---- each feature

EachFeature-push : (P : ℕ → Feature → Type 0) (features : List Feature) (new : Feature) → EachFeature features P → P (length features) new → EachFeature (features ++ new ∷ []) P
EachFeature-push P features new each last k feature is = elim (slice_get-push_cases features new k feature is) [
  | inl before ↦ each k feature before.1
  | inr at ↦ subst (λ f. P k f) at.1 (subst (λ n. P n new) (sym at.0) last)
]

EachFeature-changed_at : (P : ℕ → Feature → Type 0) (change : Feature → Feature) (features : List Feature) (i : ℕ) → EachFeature features P
    → ((feature : Feature) → slice_get features i ≡ Some feature → P i (change feature)) → EachFeature (changed_at change features i) P
EachFeature-changed_at P change [] i each changed k feature is = each k feature is
EachFeature-changed_at P change (x ∷ xs) zero each changed zero feature is = let same : change x ≡ feature = cc in subst (λ f. P zero f) same (changed x refl)
EachFeature-changed_at P change (x ∷ xs) zero each changed (suc k) feature is = each (suc k) feature is
EachFeature-changed_at P change (x ∷ xs) (suc i) each changed zero feature is = each zero feature is
EachFeature-changed_at P change (x ∷ xs) (suc i) each changed (suc k) feature is =
    EachFeature-changed_at (λ n. P (suc n)) change xs i (λ n f read. each (suc n) f read) changed k feature is

-- ---- parents

-- the feature of which it is the parent
feature_with : (features : List Feature) (i parent : ℕ) → parent_of features i ≡ Some parent → (feature : Feature) × (slice_get features i ≡ Some feature) × (feature.parent ≡ Some parent)
feature_with [] i parent is = absurd (cc)
feature_with (x ∷ xs) zero parent is = (x, refl, is)
feature_with (x ∷ xs) (suc i) parent is = feature_with xs i parent is

pub parent_of-within : (features : List Feature) (i parent : ℕ) → parent_of features i ≡ Some parent → i < length features
parent_of-within features i parent is = let found = feature_with features i parent is in slice_get_within features i found.0 found.1

parent_before : (i parent : ℕ) (option : Option ℕ) → HasParent i option → option ≡ Some parent → parent < i
parent_before i parent None has is = absurd (cc)
parent_before i parent (Some p) has is = let same : p ≡ parent = cc in omega arith

parent_of-before : (features : List Feature) → IsTree features → (i parent : ℕ) → parent_of features i ≡ Some parent → parent < i
parent_of-before features tree i parent is = let found = feature_with features i parent is in parent_before i parent (found.0).parent (tree.parents i found.0 found.1) found.2

parent_of-changed_at : (change : Feature → Feature) → ((feature : Feature) → (change feature).parent ≡ feature.parent)
    → (features : List Feature) (i k : ℕ) → parent_of (changed_at change features i) k ≡ parent_of features k
parent_of-changed_at change keeps [] i k = refl
parent_of-changed_at change keeps (x ∷ xs) zero zero = keeps x
parent_of-changed_at change keeps (x ∷ xs) zero (suc k) = refl
parent_of-changed_at change keeps (x ∷ xs) (suc i) zero = refl
parent_of-changed_at change keeps (x ∷ xs) (suc i) (suc k) = parent_of-changed_at change keeps xs i k

parent_of-push_before : (features : List Feature) (new : Feature) (k : ℕ) → k < length features → parent_of (features ++ new ∷ []) k ≡ parent_of features k
parent_of-push_before features new k within = ap (option_and_then (λ feature. feature.parent)) (slice_get-push_before features new k within)

parent_of-push_last : (features : List Feature) (new : Feature) → parent_of (features ++ new ∷ []) (length features) ≡ new.parent
parent_of-push_last features new = ap (option_and_then (λ feature. feature.parent)) (slice_get-push_last features new)

parent_of-push_cases : (features : List Feature) (new : Feature) (k parent : ℕ) → parent_of (features ++ new ∷ []) k ≡ Some parent
    → (parent_of features k ≡ Some parent) ⊎ ((k ≡ length features) × (new.parent ≡ Some parent))
parent_of-push_cases features new k parent is =
    let found = feature_with (features ++ new ∷ []) k parent is in
    elim (slice_get-push_cases features new k found.0 found.1) [
      | inl before ↦ inl (ap (option_and_then (λ feature. feature.parent)) before.1 ∙ found.2)
      | inr last ↦ inr (last.0, ap (λ feature. feature.parent) last.1 ∙ found.2)
    ]

-- ---- children

in_groups : List Group → List ℕ
in_groups = flat_map (λ group. group.children)

All-in_groups : (P : ℕ → Type 0) (groups : List Group) → All (λ group. All P group.children) groups → All P (flat_map (λ group. group.children) groups)
All-in_groups P [] all = All-nil P
All-in_groups P (g ∷ gs) all = All-append P g.children (flat_map (λ group. group.children) gs) (All-head (λ group. All P group.children) g gs all) (All-in_groups P gs (All-tail (λ group. All P group.children) g gs all))

children_of-before : (features : List Feature) → IsTree features → (i : ℕ) → All (λ child. child < length features) (children_of features i)
children_of-before features tree i = from_option (slice_get features i) refl where
  from_option : (option : Option Feature) → slice_get features i ≡ option
      → All (λ child. child < length features) (flat_map (λ group. group.children) (option_map_or (λ feature. feature.groups) option []))
  from_option None is = All-nil (λ child. child < length features)
  from_option (Some feature) is = All-in_groups (λ child. child < length features) feature.groups
      (All-weaker (IsGroupOf features i) (λ group. All (λ child. child < length features) group.children)
      (λ group own. All-weaker (λ child. parent_of features child ≡ Some i) (λ child. child < length features) (λ child p. parent_of-within features child i p) group.children own.children)
      feature.groups (tree.groups i feature is))

children_in : Option Feature → List ℕ
children_in option = flat_map (λ group. group.children) (option_map_or (λ feature. feature.groups) option [])

children_of-push_before : (features : List Feature) (new : Feature) (k : ℕ) → k < length features → children_of (features ++ new ∷ []) k ≡ children_of features k
unfolding children_in
children_of-push_before features new k within = ap children_in (slice_get-push_before features new k within)

children_of-changed_at_other : (change : Feature → Feature) (features : List Feature) (i k : ℕ) → k ≢ i → children_of (changed_at change features i) k ≡ children_of features k
unfolding children_in
children_of-changed_at_other change features i k other = ap children_in (slice_get-changed_at_other change features i k other)

children_of-changed_at : (change : Feature → Feature) (child : ℕ) (features : List Feature) (i : ℕ) → i < length features
    → ((feature : Feature) → slice_get features i ≡ Some feature
    → flat_map (λ group. group.children) (change feature).groups ≡ flat_map (λ group. group.children) feature.groups ++ child ∷ [])
    → children_of (changed_at change features i) i ≡ children_of features i ++ child ∷ []
children_of-changed_at change child [] i within adds = absurd (omega arith)
children_of-changed_at change child (x ∷ xs) zero within adds = adds x refl
children_of-changed_at change child (x ∷ xs) (suc i) within adds = children_of-changed_at change child xs i (omega arith) adds

-- ---- counting

abbrev one_if : Bool → ℕ
one_if test = cond test 1 0

cond_no : (test : Bool) → (test ≡ true → ⊥) → one_if test ≡ 0
cond_no true fails = absurd (fails refl)
cond_no false fails = refl

-- a number that does not stand in the list adds nothing
one_of_other : (n x : ℕ) → x ≢ n → one_if (x == n) ≡ 0
one_of_other n x other = cond_no (x == n) (λ same. other ((Decides-eqb x n).0 same))

one_of_same : (n x : ℕ) → x ≡ n → one_if (x == n) ≡ 1
one_of_same n x same = ap (one_if) ((Decides-eqb x n).1 same)

none_of : (n : ℕ) (xs : List ℕ) → All (λ x. x < n) xs → count_by (λ other. other == n) xs ≡ 0
none_of n [] all = refl
none_of n (x ∷ xs) all =
    let below : x < n = All-head (λ x. x < n) x xs all in
    let here : one_if (x == n) ≡ 0 = one_of_other n x (λ same. omega arith) in
    let rest : count_by (λ other. other == n) xs ≡ 0 = none_of n xs (All-tail (λ x. x < n) x xs all) in
    let sum : count_by (λ other. other == n) (x ∷ xs) ≡ one_if (x == n) + count_by (λ other. other == n) xs = sum_by-cons (λ other. one_if (other == n)) x xs in
    omega arith

-- ---- names

map-name-changed_at : (change : Feature → Feature) → ((feature : Feature) → (change feature).name ≡ feature.name)
    → (features : List Feature) (i : ℕ) → map (λ feature. feature.name) (changed_at change features i) ≡ map (λ feature. feature.name) features
map-name-changed_at change keeps [] i = refl
map-name-changed_at change keeps (x ∷ xs) zero = ap (λ first. first ∷ map (λ feature. feature.name) xs) (keeps x)
map-name-changed_at change keeps (x ∷ xs) (suc i) = ap (λ rest. x.name ∷ rest) (map-name-changed_at change keeps xs i)

map-name-push : (features : List Feature) (new : Feature) → map (λ feature. feature.name) (features ++ new ∷ []) ≡ map (λ feature. feature.name) features ++ new.name ∷ []
map-name-push [] new = refl
map-name-push (x ∷ xs) new = ap (λ rest. x.name ∷ rest) (map-name-push xs new)

-- ---- the tree

-- the features with this one changed, and then a child of it that has no group yet
abbrev pub grown : (Feature → Feature) → List Feature → ℕ → List ℕ → List Feature
grown change features parent name = changed_at change features parent ++ new_feature name (Some parent) ∷ []

-- the names of the features before, and then the child's
pub names-grown : (change : Feature → Feature) → ((feature : Feature) → (change feature).name ≡ feature.name) → (features : List Feature) (parent : ℕ) (name : List ℕ)
    → feature_names (grown change features parent name) ≡ feature_names features ++ name ∷ []
names-grown change keeps features parent name =
    map-name-push (changed_at change features parent) (new_feature name (Some parent))
    ∙ ap (λ before. before ++ name ∷ []) (map-name-changed_at change keeps features parent)

module _ (change : Feature → Feature) (features : List Feature) (parent : ℕ) (name : List ℕ) (within : parent < length features)
    (keeps_parent : (feature : Feature) → (change feature).parent ≡ feature.parent) where
  length-grown : length (grown change features parent name) ≡ length features + 1
  length-grown = length-append (changed_at change features parent) (new_feature name (Some parent) ∷ []) ∙ ap (λ n. n + 1) (length-changed_at change features parent)

  parent_of-grown_before : (k q : ℕ) → parent_of features k ≡ Some q → parent_of (grown change features parent name) k ≡ Some q
  parent_of-grown_before k q is =
      let kept : parent_of (changed_at change features parent) k ≡ parent_of features k = parent_of-changed_at change keeps_parent features parent k in
      let early : k < length (changed_at change features parent) = subst (λ n. k < n) (sym (length-changed_at change features parent)) (parent_of-within features k q is) in
      parent_of-push_before (changed_at change features parent) (new_feature name (Some parent)) k early ∙ kept ∙ is

  pub parent_of-grown_last : parent_of (grown change features parent name) (length features) ≡ Some parent
  parent_of-grown_last =
      ap (parent_of (grown change features parent name)) (sym (length-changed_at change features parent))
      ∙ parent_of-push_last (changed_at change features parent) (new_feature name (Some parent))

  parent_of-grown_cases : (k q : ℕ) → parent_of (grown change features parent name) k ≡ Some q → (parent_of features k ≡ Some q) ⊎ ((k ≡ length features) × (parent ≡ q))
  parent_of-grown_cases k q is = elim (parent_of-push_cases (changed_at change features parent) (new_feature name (Some parent)) k q is) [
    | inl before ↦ inl (sym (parent_of-changed_at change keeps_parent features parent k) ∙ before)
    | inr last ↦ inr (last.0 ∙ length-changed_at change features parent, cc)
  ]

  pub IsGroupOf-grown : (i : ℕ) (group : Group) → IsGroupOf features i group → IsGroupOf (grown change features parent name) i group
  IsGroupOf-grown i group own = record {
    filled = own.filled;
    children = All-weaker (λ child. parent_of features child ≡ Some i) (λ child. parent_of (grown change features parent name) child ≡ Some i) (λ child is. parent_of-grown_before child i is) group.children own.children;
    bounds = own.bounds;
  }

  module _ (tree : IsTree features) (room : length features < 65535) (new : IsNewName features name)
      (keeps_name : (feature : Feature) → (change feature).name ≡ feature.name)
      (adds : (feature : Feature) → slice_get features parent ≡ Some feature
      → flat_map (λ group. group.children) (change feature).groups ≡ flat_map (λ group. group.children) feature.groups ++ length features ∷ [])
      (groups : (feature : Feature) → slice_get features parent ≡ Some feature → All (IsGroupOf (grown change features parent name) parent) (change feature).groups) where
    children_of-grown : children_of (grown change features parent name) parent ≡ children_of features parent ++ length features ∷ []
    children_of-grown =
        children_of-push_before (changed_at change features parent) (new_feature name (Some parent)) parent (subst (λ n. parent < n) (sym (length-changed_at change features parent)) within)
        ∙ children_of-changed_at change (length features) features parent within adds

    children_of-grown_other : (k : ℕ) → k < length features → k ≢ parent → children_of (grown change features parent name) k ≡ children_of features k
    children_of-grown_other k early other =
        children_of-push_before (changed_at change features parent) (new_feature name (Some parent)) k (subst (λ n. k < n) (sym (length-changed_at change features parent)) early)
        ∙ children_of-changed_at_other change features parent k other

    times : ℕ → List ℕ → ℕ
    times n xs = count_by (λ other. other == n) xs

    times-push : (n : ℕ) → times n (children_of features parent ++ length features ∷ []) ≡ times n (children_of features parent) + one_if (length features == n)
    unfolding times
    times-push n = sum_by_push (λ other. one_if (other == n)) (children_of features parent) (length features)

    placed_before : (child q : ℕ) → parent_of features child ≡ Some q → count_by (λ other. other == child) (children_of (grown change features parent name) q) ≡ 1
    unfolding times
    placed_before child q is =
        let early : child < length features = parent_of-within features child q is in
        let before : q < child = parent_of-before features tree child q is in
        let once : count_by (λ other. other == child) (children_of features q) ≡ 1 = tree.placed child q is in
        elim (cases_eq q parent) [
          | inl same ↦
              let here : count_by (λ other. other == child) (children_of features parent) ≡ 1 = subst (λ p. count_by (λ other. other == child) (children_of features p) ≡ 1) same once in
              let more : one_if (length features == child) ≡ 0 = one_of_other child (length features) (λ equal. omega arith) in
              ap (λ p. count_by (λ other. other == child) (children_of (grown change features parent name) p)) same
              ∙ ap (count_by (λ other. other == child)) children_of-grown
              ∙ times-push child
              ∙ ap (λ n. n + one_if (length features == child)) here
              ∙ ap (λ n. 1 + n) more
          | inr other ↦ ap (count_by (λ other. other == child)) (children_of-grown_other q (omega arith) other) ∙ once
        ]

    placed_last : count_by (λ other. other == length features) (children_of (grown change features parent name) parent) ≡ 1
    unfolding times
    placed_last =
        ap (count_by (λ other. other == length features)) children_of-grown
        ∙ times-push (length features)
        ∙ ap (λ n. n + one_if (length features == length features)) (none_of (length features) (children_of features parent) (children_of-before features tree parent))
        ∙ ap (λ n. 0 + n) (one_of_same (length features) (length features) refl)

    names_differ : NamesDiffer (grown change features parent name)
    names_differ =
        let names : map (λ feature. feature.name) (grown change features parent name) ≡ map (λ feature. feature.name) features ++ name ∷ [] =
        map-name-push (changed_at change features parent) (new_feature name (Some parent))
        ∙ ap (λ before. before ++ name ∷ []) (map-name-changed_at change keeps_name features parent) in
        subst (AllPairs (λ one other. one ≢ other)) (sym names)
        (all_pairs_push (λ one other. one ≢ other) (map (λ feature. feature.name) features) name tree.names
        (λ k d inside. All-map (λ other. other ≢ name) (λ feature. feature.name) features new k d inside))

    pub IsTree-grown : IsTree (grown change features parent name)
    IsTree-grown = record {
      some = subst (λ n. 0 < n) (sym length-grown) (omega arith);
      few = subst (λ n. n ≤ 65535) (sym length-grown) (omega arith);
      parents = EachFeature-push (λ i feature. HasParent i feature.parent) (changed_at change features parent) (new_feature name (Some parent))
          (EachFeature-changed_at (λ i feature. HasParent i feature.parent) change features parent tree.parents
          (λ feature is. subst (HasParent parent) (sym (keeps_parent feature)) (tree.parents parent feature is)))
          (subst (λ n. parent < n) (sym (length-changed_at change features parent)) within);
      groups = EachFeature-push (λ i feature. All (IsGroupOf (grown change features parent name) i) feature.groups) (changed_at change features parent) (new_feature name (Some parent))
          (EachFeature-changed_at (λ i feature. All (IsGroupOf (grown change features parent name) i) feature.groups) change features parent
          (λ i feature is. All-weaker (IsGroupOf features i) (IsGroupOf (grown change features parent name) i) (IsGroupOf-grown i) feature.groups (tree.groups i feature is))
          groups)
          (All-nil (IsGroupOf (grown change features parent name) (length (changed_at change features parent))));
      placed = λ child q is. elim (parent_of-grown_cases child q is) [
        | inl before ↦ placed_before child q before
        | inr last ↦
            subst (λ p. count_by (λ other. other == child) (children_of (grown change features parent name) p) ≡ 1) last.1
            (subst (λ n. count_by (λ other. other == n) (children_of (grown change features parent name) parent) ≡ 1) (sym last.0) placed_last)
      ];
      names = names_differ;
    }

-- ---- the two ways to grow

children-with_last_group : (group : Group) (feature : Feature) → flat_map (λ g. g.children) (with_last_group group feature).groups ≡ flat_map (λ g. g.children) feature.groups ++ group.children
children-with_last_group group feature = flat_map-append (λ g. g.children) feature.groups (group ∷ []) ∙ ap (λ more. flat_map (λ g. g.children) feature.groups ++ more) (append-nil group.children)

children-changed_last : (child : ℕ) (groups : List Group) → 0 < length groups → flat_map (λ g. g.children) (changed_last (with_one_more child) groups) ≡ flat_map (λ g. g.children) groups ++ child ∷ []
children-changed_last child [] some = absurd (omega arith)
children-changed_last child (g ∷ []) some = append-nil (g.children ++ child ∷ []) ∙ ap (λ before. before ++ child ∷ []) (sym (append-nil g.children))
children-changed_last child (g ∷ h ∷ gs) some =
    ap (λ rest. g.children ++ rest) (children-changed_last child (h ∷ gs) (omega arith))
    ∙ sym (append_assoc g.children (flat_map (λ g. g.children) (h ∷ gs)) (child ∷ []))

-- the parent of whose groups one is asked is a feature
pub groups_of-within : (features : List Feature) (parent : ℕ) → 0 < length (groups_of features parent) → parent < length features
groups_of-within [] parent some = absurd (omega arith)
groups_of-within (x ∷ xs) zero some = omega arith
groups_of-within (x ∷ xs) (suc parent) some = omega (arith, groups_of-within xs parent some)

groups_of-read : (features : List Feature) (parent : ℕ) (feature : Feature) → slice_get features parent ≡ Some feature → groups_of features parent ≡ feature.groups
groups_of-read features parent feature is = ap (λ option. option_map_or (λ f. f.groups) option []) is

pub IsTree-with_group : (features : List Feature) (parent : ℕ) (kind : GroupKind) (low : ℕ) (high : Option ℕ) (name : List ℕ)
    → IsTree features → parent < length features → length features < 65535 → HasBounds kind low high → IsNewName features name
    → IsTree (with_group features parent kind low high name)
IsTree-with_group features parent kind low high name tree within room bounds new =
    let group : Group = record { kind = kind; low = low; high = high; children = length features ∷ [] } in
    let own : IsGroupOf (grown (with_last_group group) features parent name) parent group = record {
      filled = omega arith;
      children = All-cons (λ child. parent_of (grown (with_last_group group) features parent name) child ≡ Some parent) (length features) []
          (parent_of-grown_last (with_last_group group) features parent name within (λ feature. refl))
          (All-nil (λ child. parent_of (grown (with_last_group group) features parent name) child ≡ Some parent));
      bounds = bounds;
    } in
    IsTree-grown (with_last_group group) features parent name within (λ feature. refl) tree room new (λ feature. refl)
    (λ feature is. children-with_last_group group feature)
    (λ feature is. All-push (IsGroupOf (grown (with_last_group group) features parent name) parent) feature.groups group
    (All-weaker (IsGroupOf features parent) (IsGroupOf (grown (with_last_group group) features parent name) parent)
    (IsGroupOf-grown (with_last_group group) features parent name within (λ f. refl) parent) feature.groups (tree.groups parent feature is))
    own)

pub IsTree-with_child : (features : List Feature) (parent : ℕ) (name : List ℕ)
    → IsTree features → 0 < length (groups_of features parent) → length features < 65535 → IsNewName features name
    → IsTree (with_child features parent name)
IsTree-with_child features parent name tree some room new =
    let within : parent < length features = groups_of-within features parent some in
    let change : Feature → Feature = with_last_child (length features) in
    let last : parent_of (grown change features parent name) (length features) ≡ Some parent = parent_of-grown_last change features parent name within (λ feature. refl) in
    IsTree-grown change features parent name within (λ feature. refl) tree room new (λ feature. refl)
    (λ feature is. children-changed_last (length features) feature.groups (subst (λ groups. 0 < length groups) (groups_of-read features parent feature is) some))
    (λ feature is. All-changed_last (with_one_more (length features)) (IsGroupOf (grown change features parent name) parent) feature.groups
    (λ group own. record {
      filled = omega (arith, length-append group.children (length features ∷ []));
      children = All-push (λ child. parent_of (grown change features parent name) child ≡ Some parent) group.children (length features) own.children last;
      bounds = own.bounds;
    })
    (All-weaker (IsGroupOf features parent) (IsGroupOf (grown change features parent name) parent)
    (IsGroupOf-grown change features parent name within (λ f. refl) parent) feature.groups (tree.groups parent feature is)))
