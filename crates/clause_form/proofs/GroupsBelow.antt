-- The clauses of groups and of the tree are about the features and the variables that count children.
use Rattle.std.proofs.Common.{ℕ, zero, suc, ◌+◌, ◌<◌, List, [], ◌∷◌, map, length, All, Option, Some, None, arith}
use Rattle.std.specs.Prelude.{slice_get}
use Rattle.std.specs.Option.{option_map_or}
use Rattle.std.proofs.lemmas.List.Elements.{All-nil, All-cons, All-head, All-tail, All-append, All-map}
use Rattle.clauses.specs.declared.literal.Lit.{Lit}
use Rattle.clauses.specs.Clause.{negative_of, positive_of, unit_of}
use Rattle.clauses.specs.Problem.{IsBelow}
use Rattle.count_gates.specs.Table.{Member, Always, Never, Is, opposite, or_never, at_least, table_size, table_clauses, table_literals}
use Rattle.count_gates.proofs.Within.{table-within, literals-within}
use Rattle.feature_tree.specs.declared.group.Group.{Group}
use Rattle.feature_tree.specs.declared.group.GroupKind.{GroupKind}
use Rattle.feature_tree.specs.declared.group.GroupKind.TheVariants.{Mandatory, Optional, Or, Alternative, Range}
use Rattle.feature_tree.specs.declared.feature.Feature.{Feature}
use Rattle.clause_form.specs.Groups.{counted, under, bound_clauses, range_part, kind_part, group_part}
use Rattle.clause_form.specs.ClauseForm.{parent_clauses, tree_clauses}
use Rattle.clause_form.proofs.Below.{AreBelow, below-more, one-in, two-in, pairs-in, IsWithin, bare-within}
use Rattle.clause_form.proofs.Walks.{parents_from, groups_from}

module _ (bound : ℕ) where
  -- the member is a literal below the bound, or none
  abbrev pub IsIn : Member → Type 0
  IsIn Always = Unit {0}
  IsIn Never = Unit {0}
  IsIn (Is literal) = IsBelow bound literal

  pub opposite-in : (member : Member) → IsIn member → IsIn (opposite member)
  opposite-in Always within = tt
  opposite-in Never within = tt
  opposite-in (Is literal) within = within

  pub or_never-in : (row : List Lit) (j : ℕ) → All (IsBelow bound) row → IsIn (or_never (slice_get row j))
  or_never-in [] j within = tt
  or_never-in (literal ∷ row) zero within = All-head (IsBelow bound) literal row within
  or_never-in (literal ∷ row) (suc j) within = or_never-in row j (All-tail (IsBelow bound) literal row within)

  pub at_least-in : (row : List Lit) (j : ℕ) → All (IsBelow bound) row → IsIn (at_least row j)
  at_least-in row zero within = tt
  at_least-in row (suc j) within = or_never-in row j within

  pub under-below : (parent : ℕ) (member : Member) → parent < bound → IsIn member → AreBelow bound (under parent member)
  under-below parent Always low within = All-nil (All (IsBelow bound))
  under-below parent Never low within = All-cons (All (IsBelow bound)) (negative_of parent ∷ []) [] (one-in bound (negative_of parent) low) (All-nil (All (IsBelow bound)))
  under-below parent (Is literal) low within = All-cons (All (IsBelow bound)) (negative_of parent ∷ literal ∷ []) [] (two-in bound (negative_of parent) literal low within) (All-nil (All (IsBelow bound)))

  high-below : (parent : ℕ) (row : List Lit) (high : Option ℕ) → parent < bound → All (IsBelow bound) row
      → AreBelow bound (option_map_or (λ most. under parent (opposite (at_least row (suc most)))) high [])
  high-below parent row None low within = All-nil (All (IsBelow bound))
  high-below parent row (Some most) low within = under-below parent (opposite (at_least row (suc most))) low (opposite-in (at_least row (suc most)) (at_least-in row (suc most) within))

  pub bounds-below : (parent : ℕ) (row : List Lit) (least : ℕ) (high : Option ℕ) → parent < bound → All (IsBelow bound) row → AreBelow bound (bound_clauses parent row least high)
  bounds-below parent row least high low within =
      All-append (All (IsBelow bound)) (under parent (at_least row least)) (option_map_or (λ most. under parent (opposite (at_least row (suc most)))) high [])
      (under-below parent (at_least row least) low (at_least-in row least within))
      (high-below parent row high low within)

module _ (n : ℕ) where
  pub range-within : (parent low : ℕ) (high : Option ℕ) (children : List Lit) → parent < n → All (IsBelow n) children → IsWithin n (range_part parent low high children)
  range-within parent low high children less below =
      λ first l.
      let upto = counted (length children) low high in
      let bound = first + table_size (length children) upto in
      All-append (All (IsBelow bound)) (table_clauses first upto children) (bound_clauses parent (table_literals first upto children) low high)
      (table-within first upto children (below-more n first children l below))
      (bounds-below bound parent (table_literals first upto children) low high (omega arith) (literals-within bound first upto (length children) (omega arith)))

  pub kind-within : (parent : ℕ) (kind : GroupKind) (low : ℕ) (high : Option ℕ) (children : List Lit) → parent < n → All (IsBelow n) children → IsWithin n (kind_part parent kind low high children)
  kind-within parent Mandatory low high children less below =
      bare-within n (map (λ child. negative_of parent ∷ child ∷ []) children) (pairs-in n (negative_of parent) (λ child. child) children less (λ one l. l) below)
  kind-within parent Optional low high children less below = bare-within n [] (All-nil (All (IsBelow n)))
  kind-within parent Or low high children less below =
      bare-within n ((negative_of parent ∷ children) ∷ []) (All-cons (All (IsBelow n)) (negative_of parent ∷ children) [] (All-cons (IsBelow n) (negative_of parent) children less below) (All-nil (All (IsBelow n))))
  kind-within parent Alternative low high children less below = range-within parent 1 (Some 1) children less below
  kind-within parent Range low high children less below = range-within parent low high children less below

  pub group-within : (parent : ℕ) (group : Group) → parent < n → All (λ child. child < n) group.children → IsWithin n (group_part parent group)
  group-within parent group less below = kind-within parent group.kind group.low group.high (map positive_of group.children) less (All-map (IsBelow n) positive_of group.children below)

  -- ---- all features from one of them on

  pub record IsFeatureIn (number : ℕ) (feature : Feature) : Type 0 where
    pub parent : AreBelow n (parent_clauses number feature)
    pub groups : All (λ group. All (λ child. child < n) group.children) feature.groups

  -- each feature fits, where the first has this number
  abbrev pub EachIn : ℕ → List Feature → Type 0
  EachIn number [] = Unit {0}
  EachIn number (feature ∷ features) = (number < n) × IsFeatureIn number feature × EachIn (number + 1) features

  groups-of : (parent : ℕ) (groups : List Group) → parent < n → All (λ group. All (λ child. child < n) group.children) groups → All (IsWithin n) (map (group_part parent) groups)
  groups-of parent [] less below = All-nil (IsWithin n)
  groups-of parent (group ∷ groups) less below =
      All-cons (IsWithin n) (group_part parent group) (map (group_part parent) groups)
      (group-within parent group less (All-head (λ g. All (λ child. child < n) g.children) group groups below))
      (groups-of parent groups less (All-tail (λ g. All (λ child. child < n) g.children) group groups below))

  pub groups-within : (number : ℕ) (features : List Feature) → EachIn number features → All (IsWithin n) (groups_from number features)
  groups-within number [] each = All-nil (IsWithin n)
  groups-within number (feature ∷ features) each =
      All-append (IsWithin n) (map (group_part number) feature.groups) (groups_from (number + 1) features)
      (groups-of number feature.groups each.0 each.1.groups)
      (groups-within (number + 1) features each.2)

  pub parents-below : (number : ℕ) (features : List Feature) → EachIn number features → AreBelow n (parents_from number features)
  parents-below number [] each = All-nil (All (IsBelow n))
  parents-below number (feature ∷ features) each =
      All-append (All (IsBelow n)) (parent_clauses number feature) (parents_from (number + 1) features) each.1.parent (parents-below (number + 1) features each.2)

  pub tree-below : (features : List Feature) → 0 < n → EachIn 0 features → AreBelow n (tree_clauses features)
  tree-below features some each = All-cons (All (IsBelow n)) (unit_of (positive_of 0)) (parents_from 0 features) (one-in n (positive_of 0) some) (parents-below 0 features each)
