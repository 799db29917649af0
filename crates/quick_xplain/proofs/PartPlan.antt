-- The plan of a part: how deep is deep enough, and how it goes by halves.
use Rattle.std.specs.Prelude.{◌==◌}
use Rattle.std.proofs.Common.{◌≡◌, ℕ, zero, suc, ◌+◌, ◌<◌, ◌≤◌, Bool, true, false, not, cond, List, [], ◌∷◌, ◌++◌, length, refl, ap, arith}
use Rattle.pref_sets.specs.Plan.{Plan, found, asks, chain}
use Rattle.pref_sets.specs.Positions.{lower_half, upper_half}
use Rattle.pref_sets.proofs.AscendingPositions.{halves-length}
use Rattle.pref_sets.proofs.PlansLeft.{chain-same}
use Rattle.quick_xplain.specs.inside.Remaining.{unless_alone, part_within, part_plan}

-- the two halves of a part, one after the other
abbrev pub by_halves : (List ℕ → List ℕ → List ℕ → Bool → Plan) → List ℕ → List ℕ → List ℕ → Plan
by_halves next below positions conflict =
    chain (next (below ++ lower_half positions) (upper_half positions) conflict true) (λ further.
    next below (lower_half positions) further (not (length further == length conflict)))

-- the number of positions is deep enough, and deeper changes nothing
pub part_within-same : (c d : ℕ) (below positions conflict : List ℕ) (added : Bool) → length positions ≤ c → length positions ≤ d → part_within c below positions conflict added ≡ part_within d below positions conflict added
part_within-same zero zero below positions conflict added l m = refl
part_within-same zero (suc d) below [] conflict added l m = refl
part_within-same zero (suc d) below (x ∷ positions) conflict added l m = absurd (omega arith)
part_within-same (suc c) zero below [] conflict added l m = refl
part_within-same (suc c) zero below (x ∷ positions) conflict added l m = absurd (omega arith)
part_within-same (suc c) (suc d) below [] conflict added l m = refl
part_within-same (suc c) (suc d) below (x ∷ []) conflict added l m = refl
part_within-same (suc c) (suc d) below (x ∷ y ∷ rest) conflict added l m =
    let whole : List ℕ = x ∷ y ∷ rest in
    let sizes : (0 < length (lower_half (x ∷ y ∷ rest))) × (0 < length (upper_half (x ∷ y ∷ rest))) × (length (lower_half (x ∷ y ∷ rest)) + length (upper_half (x ∷ y ∷ rest)) ≡ length (x ∷ y ∷ rest)) = halves-length (x ∷ y ∷ rest) (omega arith) in
    ap (unless_alone (below ++ conflict) conflict added)
    (chain-same (part_within c (below ++ lower_half whole) (upper_half whole) conflict true) (part_within d (below ++ lower_half whole) (upper_half whole) conflict true) _ _
    (part_within-same c d (below ++ lower_half whole) (upper_half whole) conflict true (omega (arith, sizes)) (omega (arith, sizes)))
    (λ further. part_within-same c d below (lower_half whole) further (not (length further == length conflict)) (omega (arith, sizes)) (omega (arith, sizes))))

-- two positions and more: the halves
pub part_plan-halves : (below positions conflict : List ℕ) (added : Bool) → 2 ≤ length positions → part_plan below positions conflict added ≡ unless_alone (below ++ conflict) conflict added (by_halves part_plan below positions conflict)
part_plan-halves below [] conflict added l = absurd (omega arith)
part_plan-halves below (x ∷ []) conflict added l = absurd (omega arith)
part_plan-halves below (x ∷ y ∷ rest) conflict added l =
    let whole : List ℕ = x ∷ y ∷ rest in
    let sizes : (0 < length (lower_half (x ∷ y ∷ rest))) × (0 < length (upper_half (x ∷ y ∷ rest))) × (length (lower_half (x ∷ y ∷ rest)) + length (upper_half (x ∷ y ∷ rest)) ≡ length (x ∷ y ∷ rest)) = halves-length (x ∷ y ∷ rest) (omega arith) in
    ap (unless_alone (below ++ conflict) conflict added)
    (chain-same (part_within (length (y ∷ rest)) (below ++ lower_half whole) (upper_half whole) conflict true) (part_plan (below ++ lower_half whole) (upper_half whole) conflict true) _ _
    (part_within-same (length (y ∷ rest)) (length (upper_half whole)) (below ++ lower_half whole) (upper_half whole) conflict true (omega (arith, sizes)) (omega arith))
    (λ further. part_within-same (length (y ∷ rest)) (length (lower_half whole)) below (lower_half whole) further (not (length further == length conflict)) (omega (arith, sizes)) (omega arith)))

-- where something was added, the background is asked first
pub part_plan-asks : (below positions conflict : List ℕ) → 0 < length positions → part_plan below positions conflict true ≡ asks (below ++ conflict) (λ sat. cond sat (part_plan below positions conflict false) (found conflict))
part_plan-asks below [] conflict l = absurd (omega arith)
part_plan-asks below (x ∷ []) conflict l = refl
part_plan-asks below (x ∷ y ∷ rest) conflict l = refl
