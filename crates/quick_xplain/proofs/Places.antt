-- The members at a range of places, and the halves of a range.
use Rattle.std.proofs.Common.{◌≡◌, ℕ, ◌+◌, ◌<◌, ◌≤◌, ◌-◌, ◌/◌, List, [], ◌∷◌, ◌++◌, length, take, drop, sym, ◌∙◌, ap, arith}
use Rattle.std.specs.Prelude.{Some, slice_get}
use Rattle.std.proofs.Math.Seq.{take-add, take-append_seam, drop-append_seam, drop-cons}
use Rattle.std.proofs.lemmas.List.{length-take-le, length-drop, drop-drop, take_more}
use Rattle.std.proofs.lemmas.Option.{get_or_from_slice_get}
use Rattle.pref_sets.specs.Positions.{lower_half, upper_half}
use Rattle.quick_xplain.specs.inside.Remaining.{at_range}

pub length-at_range : (members : List ℕ) (before size : ℕ) → before + size ≤ length members → length (at_range members before size) ≡ size
length-at_range members before size l =
    let rest : length (drop before members) ≡ length members - before = length-drop before members in
    length-take-le size (drop before members) (omega arith)

-- the members below a range, and those of the range
pub below-at_range : (members : List ℕ) (before size : ℕ) → take before members ++ at_range members before size ≡ take (before + size) members
below-at_range members before size = sym (take-add before size members)

-- a range in two parts
pub at_range-parts : (members : List ℕ) (before half size : ℕ) → half ≤ size → at_range members before size ≡ at_range members before half ++ at_range members (before + half) (size - half)
at_range-parts members before half size l =
    let all : size ≡ half + (size - half) = omega arith in
    ap (λ m. take m (drop before members)) all
    ∙ take-add half (size - half) (drop before members)
    ∙ ap (λ (rest : List ℕ). at_range members before half ++ take (size - half) rest) (drop-drop half before members)

pub lower_half-at_range : (members : List ℕ) (before size : ℕ) → before + size ≤ length members → lower_half (at_range members before size) ≡ at_range members before (size / 2)
lower_half-at_range members before size l =
    let half : length (at_range members before (size / 2)) ≡ size / 2 = length-at_range members before (size / 2) (omega arith) in
    ap (λ m. take (m / 2) (at_range members before size)) (length-at_range members before size l)
    ∙ ap (take (size / 2)) (at_range-parts members before (size / 2) size (omega arith))
    ∙ ap (λ m. take m (at_range members before (size / 2) ++ at_range members (before + size / 2) (size - size / 2))) (sym half)
    ∙ take-append_seam (at_range members before (size / 2)) (at_range members (before + size / 2) (size - size / 2))

pub upper_half-at_range : (members : List ℕ) (before size : ℕ) → before + size ≤ length members → upper_half (at_range members before size) ≡ at_range members (before + size / 2) (size - size / 2)
upper_half-at_range members before size l =
    let half : length (at_range members before (size / 2)) ≡ size / 2 = length-at_range members before (size / 2) (omega arith) in
    ap (λ m. drop (m / 2) (at_range members before size)) (length-at_range members before size l)
    ∙ ap (drop (size / 2)) (at_range-parts members before (size / 2) size (omega arith))
    ∙ ap (λ m. drop m (at_range members before (size / 2) ++ at_range members (before + size / 2) (size - size / 2))) (sym half)
    ∙ drop-append_seam (at_range members before (size / 2)) (at_range members (before + size / 2) (size - size / 2))

-- one member more
pub take-next : (members : List ℕ) (place x : ℕ) → place < length members → slice_get members place ≡ Some x → take (place + 1) members ≡ take place members ++ x ∷ []
take-next members place x l e = take_more members place x l ∙ ap (λ (y : ℕ). take place members ++ y ∷ []) (get_or_from_slice_get members place x x e)

-- a single place
pub at_range-one : (members : List ℕ) (place x : ℕ) → place < length members → slice_get members place ≡ Some x → at_range members place 1 ≡ x ∷ []
at_range-one members place x l e =
    ap (take 1) (drop-cons members place x l) ∙ ap (λ (y : ℕ). y ∷ []) (get_or_from_slice_get members place x x e)
