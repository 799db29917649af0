-- The plan of a part: how deep is deep enough, and how it goes by halves.
use Rattle.std.specs.Prelude.{◌==◌}
use Rattle.std.proofs.Common.{◌≡◌, ℕ, zero, suc, ◌+◌, ◌≤◌, ◌-◌, ◌/◌, Bool, false, List, ◌++◌, length, refl, ap, arith}
use Rattle.pref_sets.specs.Plan.{Plan, found, chain}
use Rattle.pref_sets.specs.Positions.{range}
use Rattle.pref_sets.proofs.PlansLeft.{chain-same}
use Rattle.fast_diag.specs.inside.Remaining.{unless_all, part_within, part_plan}

-- the two halves of a range, one after the other
abbrev pub by_halves : (List ℕ → ℕ → ℕ → Bool → Plan) → List ℕ → ℕ → ℕ → Plan
by_halves next kept before size =
    chain (next kept before (size / 2) false) (λ lower.
    next lower (before + size / 2) (size - size / 2) (length lower == length kept + size / 2))

unless_all-same : (all : List ℕ) (known : Bool) (p q : Plan) → p ≡ q → unless_all all known p ≡ unless_all all known q
unless_all-same all known p q e = ap (unless_all all known) e

-- the length is deep enough, and deeper changes nothing
pub part_within-same : (c d : ℕ) (kept : List ℕ) (before size : ℕ) (known : Bool) → size ≤ c → size ≤ d → part_within c kept before size known ≡ part_within d kept before size known
part_within-same zero zero kept before size known l m = refl
part_within-same zero (suc d) kept before zero known l m = refl
part_within-same zero (suc d) kept before (suc size) known l m = absurd (omega arith)
part_within-same (suc c) zero kept before zero known l m = refl
part_within-same (suc c) zero kept before (suc size) known l m = absurd (omega arith)
part_within-same (suc c) (suc d) kept before zero known l m = refl
part_within-same (suc c) (suc d) kept before (suc zero) known l m = refl
part_within-same (suc c) (suc d) kept before (suc (suc more)) known l m =
    unless_all-same (kept ++ range before (suc (suc more))) known (by_halves (part_within c) kept before (suc (suc more))) (by_halves (part_within d) kept before (suc (suc more)))
    (chain-same (part_within c kept before (suc (suc more) / 2) false) (part_within d kept before (suc (suc more) / 2) false) _ _
    (part_within-same c d kept before (suc (suc more) / 2) false (omega arith) (omega arith))
    (λ lower. part_within-same c d lower (before + suc (suc more) / 2) (suc (suc more) - suc (suc more) / 2) (length lower == length kept + suc (suc more) / 2) (omega arith) (omega arith)))

-- two positions and more: the halves
pub part_plan-halves : (kept : List ℕ) (before size : ℕ) (known : Bool) → 2 ≤ size → part_plan kept before size known ≡ unless_all (kept ++ range before size) known (by_halves part_plan kept before size)
part_plan-halves kept before zero known l = absurd (omega arith)
part_plan-halves kept before (suc zero) known l = absurd (omega arith)
part_plan-halves kept before (suc (suc more)) known l =
    unless_all-same (kept ++ range before (suc (suc more))) known (by_halves (part_within (suc more)) kept before (suc (suc more))) (by_halves part_plan kept before (suc (suc more)))
    (chain-same (part_within (suc more) kept before (suc (suc more) / 2) false) (part_plan kept before (suc (suc more) / 2) false) _ _
    (part_within-same (suc more) (suc (suc more) / 2) kept before (suc (suc more) / 2) false (omega arith) (omega arith))
    (λ lower. part_within-same (suc more) (suc (suc more) - suc (suc more) / 2) lower (before + suc (suc more) / 2) (suc (suc more) - suc (suc more) / 2) (length lower == length kept + suc (suc more) / 2) (omega arith) (omega arith)))

pub part_plan-one : (kept : List ℕ) (before size : ℕ) (known : Bool) → size ≡ 1 → part_plan kept before size known ≡ unless_all (kept ++ range before size) known (found kept)
part_plan-one kept before zero known e = absurd (omega arith)
part_plan-one kept before (suc zero) known e = refl
part_plan-one kept before (suc (suc more)) known e = absurd (omega arith)
