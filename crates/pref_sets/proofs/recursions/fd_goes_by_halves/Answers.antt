use Rattle.std.proofs.Common.{◌≡◌, ℕ, zero, suc, ◌+◌, ◌<◌, ◌≤◌, Bool, false, List, [], ◌∷◌, length, refl, arith}
use Rattle.pref_sets.specs.Answers.{Answer, Done, and_then, same_set}
use Rattle.pref_sets.specs.FastDiag.{fd_behind, fd_part, unless_sat}
use Rattle.pref_sets.specs.Positions.{union, lower_half, upper_half}
use Rattle.pref_sets.proofs.AscendingPositions.{halves-length}
use Rattle.pref_sets.proofs.recursions.fd_goes_by_halves.Goals as goal

-- a greater count changes nothing
enough : (n m : ℕ) (table : List Answer) (positions background : List ℕ) (known : Bool) → length positions ≤ n → length positions ≤ m → fd_part n table positions background known ≡ fd_part m table positions background known
enough zero zero table positions background known l r = refl
enough zero (suc m) table [] background known l r = refl
enough zero (suc m) table (x ∷ positions) background known l r = absurd (omega arith)
enough (suc n) zero table [] background known l r = refl
enough (suc n) zero table (x ∷ positions) background known l r = absurd (omega arith)
enough (suc n) (suc m) table [] background known l r = refl
enough (suc n) (suc m) table (x ∷ []) background known l r = refl
enough (suc n) (suc m) table (x ∷ y ∷ rest) background known l r =
    let whole : List ℕ = x ∷ y ∷ rest in
    let sizes : (0 < length (lower_half (x ∷ y ∷ rest))) × (0 < length (upper_half (x ∷ y ∷ rest))) × (length (lower_half (x ∷ y ∷ rest)) + length (upper_half (x ∷ y ∷ rest)) ≡ length (x ∷ y ∷ rest)) = halves-length (x ∷ y ∷ rest) (omega arith) in
    let lower : (b : List ℕ) (k : Bool) → fd_part n table (lower_half whole) b k ≡ fd_part m table (lower_half whole) b k = λ b k. enough n m table (lower_half whole) b k (omega (arith, sizes)) (omega (arith, sizes)) in
    let upper : (b : List ℕ) (k : Bool) → fd_part n table (upper_half whole) b k ≡ fd_part m table (upper_half whole) b k = λ b k. enough n m table (upper_half whole) b k (omega (arith, sizes)) (omega (arith, sizes)) in
    simp (lower, upper) refl

pub returns-clause-enough : goal.returns-clause-enough
returns-clause-enough c = λ count table positions background known l. enough count (length positions) table positions background known l (omega arith)

more : (table : List Answer) (positions background : List ℕ) (known : Bool) → 2 ≤ length positions →
    fd_behind table positions background known ≡
    unless_sat table positions background known
    (and_then (fd_behind table (lower_half positions) background false) (λ lower.
    and_then (fd_behind table (upper_half positions) (union background lower) (same_set lower (lower_half positions))) (λ upper.
    Done (union lower upper))))
more table [] background known l = absurd (omega arith)
more table (x ∷ []) background known l = absurd (omega arith)
more table (x ∷ y ∷ rest) background known l =
    let whole : List ℕ = x ∷ y ∷ rest in
    let sizes : (0 < length (lower_half (x ∷ y ∷ rest))) × (0 < length (upper_half (x ∷ y ∷ rest))) × (length (lower_half (x ∷ y ∷ rest)) + length (upper_half (x ∷ y ∷ rest)) ≡ length (x ∷ y ∷ rest)) = halves-length (x ∷ y ∷ rest) (omega arith) in
    let lower : (b : List ℕ) (k : Bool) → fd_part (length (y ∷ rest)) table (lower_half whole) b k ≡ fd_part (length (lower_half whole)) table (lower_half whole) b k = λ b k. enough (length (y ∷ rest)) (length (lower_half whole)) table (lower_half whole) b k (omega (arith, sizes)) (omega arith) in
    let upper : (b : List ℕ) (k : Bool) → fd_part (length (y ∷ rest)) table (upper_half whole) b k ≡ fd_part (length (upper_half whole)) table (upper_half whole) b k = λ b k. enough (length (y ∷ rest)) (length (upper_half whole)) table (upper_half whole) b k (omega (arith, sizes)) (omega arith) in
    simp (lower, upper) refl

pub returns-clause-more : goal.returns-clause-more
returns-clause-more c = λ table positions background known l. more table positions background known l
