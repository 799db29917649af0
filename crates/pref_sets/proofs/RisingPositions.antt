-- Positions that rise within bounds, as ascending lists, and the halves of a range.
use Rattle.std.proofs.Common.{◌≡◌, ℕ, ◌+◌, ◌<◌, ◌≤◌, ◌-◌, ◌/◌, List, [], ◌∷◌, ◌++◌, take, drop, ◌∙◌, ap, arith}
use Rattle.std.specs.Prelude.{Contains}
use Rattle.std.specs.List.{range_with_len}
use Rattle.std.proofs.lemmas.List.FromFn.{length-range_with_len}
use Rattle.pref_sets.specs.Positions.{union, lower_half, upper_half, range}
use Rattle.pref_sets.proofs.AscendingPositions.{Ascends, union-append}
use Rattle.req_keys.specs.Positions.{RiseWithin}
use Rattle.req_keys.proofs.PositionsLaws.{RiseWithin-range}
use Rattle.req_keys.proofs.Rises.{members-within}
use Rattle.lists.proofs.Members.{first as contains_first, later as contains_later}
use Rattle.lists.proofs.Ranges.{range-append, take-range, drop-range}

pub Ascends-from_rises : (low high : ℕ) (xs : List ℕ) → RiseWithin low high xs → Ascends xs
Ascends-from_rises low high [] h = tt
Ascends-from_rises low high (x ∷ xs) h = (
  (λ y m. let rest : (x < y) × (y ≤ high) = members-within x high xs h.2 y m in rest.0),
  Ascends-from_rises x high xs h.2,
)

pub rises-from_Ascends : (low high : ℕ) (xs : List ℕ) → Ascends xs → ((y : ℕ) → Contains xs y → (low < y) × (y ≤ high)) → RiseWithin low high xs
rises-from_Ascends low high [] a h = tt
rises-from_Ascends low high (x ∷ xs) a h =
    let first : (low < x) × (x ≤ high) = h x (contains_first x xs) in (
      first.0,
      first.1,
      rises-from_Ascends x high xs a.1 (λ y m. let there : (low < y) × (y ≤ high) = h y (contains_later x xs y m) in (a.0 y m, there.1)),
    )

pub union-above : (low middle high : ℕ) (a b : List ℕ) → RiseWithin low middle a → RiseWithin middle high b → union a b ≡ a ++ b
union-above low middle high a b h k =
    union-append a b (Ascends-from_rises low middle a h)
    (λ x y m n.
    let first : (low < x) × (x ≤ middle) = members-within low middle a h x m in
    let second : (middle < y) × (y ≤ high) = members-within middle high b k y n in
    let below : x ≤ middle = first.1 in
    let above : middle < y = second.0 in
    omega arith)

pub RiseWithin-of_range : (before length : ℕ) → RiseWithin before (before + length) (range before length)
RiseWithin-of_range before length = RiseWithin-range (before + 1) length before (before + length) (omega arith) (omega arith)

pub range-parts : (before half length : ℕ) → half ≤ length → range before half ++ range (before + half) (length - half) ≡ range before length
range-parts before half length l =
    let e : (before + half) + 1 ≡ (before + 1) + half = omega arith in
    let f : half + (length - half) ≡ length = omega arith in
    rw e (range-append (before + 1) half (length - half) ∙ ap (range_with_len (before + 1)) f)

pub lower_half-range : (before length : ℕ) → lower_half (range before length) ≡ range before (length / 2)
lower_half-range before length = ap (λ m. take (m / 2) (range before length)) (length-range_with_len (before + 1) length) ∙ take-range (length / 2) (before + 1) length (omega arith)

pub upper_half-range : (before length : ℕ) → upper_half (range before length) ≡ range (before + length / 2) (length - length / 2)
upper_half-range before length =
    let e : (before + 1) + length / 2 ≡ (before + length / 2) + 1 = omega arith in
    ap (λ m. drop (m / 2) (range before length)) (length-range_with_len (before + 1) length) ∙ drop-range (length / 2) (before + 1) length (omega arith) ∙ ap (λ a. range_with_len a (length - length / 2)) e
