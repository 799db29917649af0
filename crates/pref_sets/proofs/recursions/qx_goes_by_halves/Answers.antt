use Rattle.std.proofs.Common.{◌≡◌, ℕ, zero, suc, ◌+◌, ◌<◌, ◌≤◌, List, [], ◌∷◌, length, refl, arith}
use Rattle.pref_sets.specs.Answers.{Answer, Done, and_then}
use Rattle.pref_sets.specs.QuickXplain.{qx_behind, qx_part, unless_unsat}
use Rattle.pref_sets.specs.Positions.{union, lower_half, upper_half}
use Rattle.pref_sets.proofs.AscendingPositions.{halves-length}
use Rattle.pref_sets.proofs.recursions.qx_goes_by_halves.Goals as goal

-- a greater count changes nothing
enough : (n m : ℕ) (table : List Answer) (background added positions : List ℕ) → length positions ≤ n → length positions ≤ m → qx_part n table background added positions ≡ qx_part m table background added positions
enough zero zero table background added positions l r = refl
enough zero (suc m) table background added [] l r = refl
enough zero (suc m) table background added (x ∷ positions) l r = absurd (omega arith)
enough (suc n) zero table background added [] l r = refl
enough (suc n) zero table background added (x ∷ positions) l r = absurd (omega arith)
enough (suc n) (suc m) table background added [] l r = refl
enough (suc n) (suc m) table background added (x ∷ []) l r = refl
enough (suc n) (suc m) table background added (x ∷ y ∷ rest) l r =
    let whole : List ℕ = x ∷ y ∷ rest in
    let sizes : (0 < length (lower_half (x ∷ y ∷ rest))) × (0 < length (upper_half (x ∷ y ∷ rest))) × (length (lower_half (x ∷ y ∷ rest)) + length (upper_half (x ∷ y ∷ rest)) ≡ length (x ∷ y ∷ rest)) = halves-length (x ∷ y ∷ rest) (omega arith) in
    let lower : (b d : List ℕ) → qx_part n table b d (lower_half whole) ≡ qx_part m table b d (lower_half whole) = λ b d. enough n m table b d (lower_half whole) (omega (arith, sizes)) (omega (arith, sizes)) in
    let upper : (b d : List ℕ) → qx_part n table b d (upper_half whole) ≡ qx_part m table b d (upper_half whole) = λ b d. enough n m table b d (upper_half whole) (omega (arith, sizes)) (omega (arith, sizes)) in
    simp (lower, upper) refl

pub returns-clause-enough : goal.returns-clause-enough
returns-clause-enough c = λ count table background added positions l. enough count (length positions) table background added positions l (omega arith)

more : (table : List Answer) (background added positions : List ℕ) → 2 ≤ length positions →
    qx_behind table background added positions ≡
    unless_unsat table background added
    (and_then (qx_behind table (union background (lower_half positions)) (lower_half positions) (upper_half positions)) (λ upper.
    and_then (qx_behind table (union background upper) upper (lower_half positions)) (λ lower.
    Done (union lower upper))))
more table background added [] l = absurd (omega arith)
more table background added (x ∷ []) l = absurd (omega arith)
more table background added (x ∷ y ∷ rest) l =
    let whole : List ℕ = x ∷ y ∷ rest in
    let sizes : (0 < length (lower_half (x ∷ y ∷ rest))) × (0 < length (upper_half (x ∷ y ∷ rest))) × (length (lower_half (x ∷ y ∷ rest)) + length (upper_half (x ∷ y ∷ rest)) ≡ length (x ∷ y ∷ rest)) = halves-length (x ∷ y ∷ rest) (omega arith) in
    let lower : (b d : List ℕ) → qx_part (length (y ∷ rest)) table b d (lower_half whole) ≡ qx_part (length (lower_half whole)) table b d (lower_half whole) = λ b d. enough (length (y ∷ rest)) (length (lower_half whole)) table b d (lower_half whole) (omega (arith, sizes)) (omega arith) in
    let upper : (b d : List ℕ) → qx_part (length (y ∷ rest)) table b d (upper_half whole) ≡ qx_part (length (upper_half whole)) table b d (upper_half whole) = λ b d. enough (length (y ∷ rest)) (length (upper_half whole)) table b d (upper_half whole) (omega (arith, sizes)) (omega arith) in
    simp (lower, upper) refl

pub returns-clause-more : goal.returns-clause-more
returns-clause-more c = λ table background added positions l. more table background added positions l
