-- The order of diagnoses. Own to this project: Reiter (1987) lists diagnoses by their number of members, and
-- leaves open the order among those of one number.
use Rattle.std.specs.Prelude.{◌≡◌, ◌↔◌, ℕ, ◌<◌, Bool, length, Contains, ◌⊎◌, ◌==◌}
use Rattle.std.specs.declared.cmp.Ordering.{Ordering}
use Rattle.std.specs.Ordering.{nat_cmp, on, flip_args, then_cmp, eq_of_both}
use Rattle.std.specs.Cmp.Lexicographic.{slice_cmp, pointwise}
use Rattle.req_keys.specs.Key.{PositionSet}

-- the sets have the same positions below this one
abbrev pub AgreeBelow : ℕ → PositionSet → PositionSet → Type 0
AgreeBelow position a b = (i : ℕ) → i < position → Contains a.members i ↔ Contains b.members i

-- the first position on which they differ is in `b`
abbrev pub FirstDifferenceIsInSecond : PositionSet → PositionSet → Type 0
FirstDifferenceIsInSecond a b =
    (position : ℕ) × AgreeBelow position a b × (¬ Contains a.members position) × Contains b.members position

-- of two keys over one n: fewer members first, then `a` before `b` where the first position on which they
-- differ is in `b`
abbrev pub ComesBeforeInOne : PositionSet → PositionSet → Type 0
ComesBeforeInOne a b =
    (length a.members < length b.members) ⊎ ((length a.members ≡ length b.members) × FirstDifferenceIsInSecond a b)

-- a key comes before another: keys over different n are ordered by n
abbrev pub ComesBefore : PositionSet → PositionSet → Type 0
ComesBefore a b = (a.n < b.n) ⊎ ((a.n ≡ b.n) × ComesBeforeInOne a b)

-- the order of keys, as a function: by n, by the number of members, and then, of two ascending lists, the one
-- with the greater member at the first place where they differ comes first
abbrev pub key_cmp : PositionSet → PositionSet → Ordering
key_cmp =
    then_cmp (on (λ key. key.n) nat_cmp)
    (then_cmp (on (λ key. length key.members) nat_cmp) (flip_args (on (λ key. key.members) (slice_cmp nat_cmp))))

-- whether two keys are one: the same n and the same members
abbrev pub key_eq : PositionSet → PositionSet → Bool
key_eq = eq_of_both (on (λ key. key.n) ◌==◌) (on (λ key. key.members) (pointwise ◌==◌))
