-- What a contract sees of a `Key`: a set of requirement positions. Own to this project.
use Rattle.std.specs.Prelude.{ℕ, ◌≤◌, Bool, not, ◌&&◌, ◌||◌, List, [], ◌==◌}
use Rattle.std.specs.List.{list_all, range_with_len}
use Rattle.req_keys.specs.Positions.{RiseWithin, has, positions_where}

-- a set of positions of 1..=n: the number n of requirements, and the members in their order
pub record PositionSet : Type 0 where
  pub n : ℕ
  pub members : List ℕ

-- at most 4,096 requirements, and the members ascend within 1..=n
abbrev pub IsKey : PositionSet → Type 0
IsKey key = (key.n ≤ 4096) × RiseWithin 0 key.n key.members

-- the positions of 1..=n that pass the test
abbrev pub key_where : ℕ → (ℕ → Bool) → PositionSet
key_where n test = record { n = n; members = positions_where n test }

abbrev pub empty_key : ℕ → PositionSet
empty_key n = record { n = n; members = [] }

-- 1, 2, .., n
abbrev pub full_key : ℕ → PositionSet
full_key n = record { n = n; members = range_with_len 1 n }

-- the members and one more position
abbrev pub key_with : PositionSet → ℕ → PositionSet
key_with key position = key_where key.n (λ i. has key.members i || position == i)

-- the positions in `a` or in `b`
abbrev pub union_of : PositionSet → PositionSet → PositionSet
union_of a b = key_where a.n (λ i. has a.members i || has b.members i)

-- the positions in `a` and not in `b`
abbrev pub difference_of : PositionSet → PositionSet → PositionSet
difference_of a b = key_where a.n (λ i. has a.members i && not (has b.members i))

-- whether each member of `a` is in `b`
abbrev pub is_subset_of : PositionSet → PositionSet → Bool
is_subset_of a b = list_all (λ i. has b.members i) a.members

-- whether no member of `a` is in `b`
abbrev pub is_disjoint_of : PositionSet → PositionSet → Bool
is_disjoint_of a b = list_all (λ i. not (has b.members i)) a.members
