-- The generated product line: the tree of its features, its constraints and the requirements on it. Own to this project.
-- Every part is told from the seed, the size and its number; draws are counted through all parts in their order.
use Rattle.std.specs.Prelude.{ℕ, zero, suc, ◌+◌, ◌-◌, ◌*◌, ◌/◌, ◌==◌, Bool, List, map, min, max}
use Rattle.std.specs.List.{range_with_len}
use Rattle.feature_tree.specs.declared.group.GroupKind.{GroupKind}
use Rattle.feature_tree.specs.declared.group.GroupKind.TheVariants.{Mandatory, Optional, Or, Range}
use Rattle.model_gen.specs.Draws.{drawn}

-- the features are 0 to `size`, and each has up to four children, in the order of the numbers
abbrev pub parent_of : ℕ → ℕ
parent_of feature = (feature - 1) / 4

abbrev pub children : ℕ → ℕ → List ℕ
children size feature = range_with_len (4 * feature + 1) (min 4 (size - 4 * feature))

-- so many features have children: those with the lowest numbers
abbrev pub parent_count : ℕ → ℕ
parent_count size = (size + 3) / 4

-- the kind of the one group that holds a feature's children; a range asks for one child at least
abbrev pub kind_by : ℕ → GroupKind
kind_by zero = Mandatory
kind_by (suc zero) = Optional
kind_by (suc (suc zero)) = Or
kind_by (suc (suc (suc other))) = Range

-- the kinds, by the number of the parent
abbrev pub kinds : ℕ → ℕ → List GroupKind
kinds seed size = map (λ parent. kind_by (drawn seed parent 4)) (range_with_len 0 (parent_count size))

-- a constraint: every product with the first feature has the second
pub record Implication : Type 0 where
  pub feature : ℕ
  pub needed : ℕ

abbrev pub constraint_count : ℕ → ℕ
constraint_count size = size / 4

abbrev pub constraint : ℕ → ℕ → ℕ → Implication
constraint seed size number = record {
  feature = drawn seed (parent_count size + 2 * number) (size + 1);
  needed = drawn seed (parent_count size + 2 * number + 1) (size + 1);
}

abbrev pub constraints : ℕ → ℕ → List Implication
constraints seed size = map (constraint seed size) (range_with_len 0 (constraint_count size))

-- a requirement: the feature is wanted, or it is unwanted
pub record Wish : Type 0 where
  pub feature : ℕ
  pub unwanted : Bool

abbrev pub wish_count : ℕ → ℕ
wish_count size = min 4096 (max 1 (size / 8))

-- the draws before the first requirement
abbrev pub draws_before_wishes : ℕ → ℕ
draws_before_wishes size = parent_count size + 2 * constraint_count size

abbrev pub wish : ℕ → ℕ → ℕ → Wish
wish seed size number = record {
  feature = drawn seed (draws_before_wishes size + 2 * number) (size + 1);
  unwanted = drawn seed (draws_before_wishes size + 2 * number + 1) 4 == 0;
}

abbrev pub wishes : ℕ → ℕ → List Wish
wishes seed size = map (wish seed size) (range_with_len 0 (wish_count size))
