-- Lists that rise within bounds, without some of their numbers.
use Rattle.std.proofs.Common.{◌≡◌, ℕ, ◌+◌, ◌<◌, ◌≤◌, ◌-◌, List, [], ◌∷◌, ◌++◌, take, sym, ◌∙◌, ap, subst, arith, append_assoc}
use Rattle.req_keys.specs.Positions.{RiseWithin}
use Rattle.req_keys.proofs.PositionsLaws.{RiseWithin-lower}
use Rattle.quick_xplain.specs.inside.Remaining.{at_range}
use Rattle.quick_xplain.proofs.Places.{below-at_range}

-- the last of two lists
pub RiseWithin-last : (low high : ℕ) (a b : List ℕ) → RiseWithin low high (a ++ b) → RiseWithin low high b
RiseWithin-last low high [] b h = h
RiseWithin-last low high (x ∷ a) b h =
    let above : low < x = h.0 in
    RiseWithin-lower x low high b (omega arith) (RiseWithin-last x high a b h.2)

-- the first of two lists
pub RiseWithin-first : (low high : ℕ) (a b : List ℕ) → RiseWithin low high (a ++ b) → RiseWithin low high a
RiseWithin-first low high [] b h = tt
RiseWithin-first low high (x ∷ a) b h = (h.0, h.1, RiseWithin-first x high a b h.2)

-- the first and the last of three
pub RiseWithin-outer : (low high : ℕ) (a b c : List ℕ) → RiseWithin low high (a ++ (b ++ c)) → RiseWithin low high (a ++ c)
RiseWithin-outer low high [] b c h = RiseWithin-last low high b c h
RiseWithin-outer low high (x ∷ a) b c h = (h.0, h.1, RiseWithin-outer x high a b c h.2)

-- fewer of the members below
pub RiseWithin-below : (n lower high : ℕ) (members conflict : List ℕ) → lower ≤ high → RiseWithin 0 n (take high members ++ conflict) → RiseWithin 0 n (take lower members ++ conflict)
RiseWithin-below n lower high members conflict l h =
    let all : lower + (high - lower) ≡ high = omega arith in
    let parts : take high members ≡ take lower members ++ at_range members lower (high - lower) = ap (λ m. take m members) (sym all) ∙ sym (below-at_range members lower (high - lower)) in
    RiseWithin-outer 0 n (take lower members) (at_range members lower (high - lower)) conflict
    (subst (RiseWithin 0 n) (ap (λ (t : List ℕ). t ++ conflict) parts ∙ append_assoc (take lower members) (at_range members lower (high - lower)) conflict) h)

-- what stands before a number of the list is below it
pub before_number : (low high x : ℕ) (a b : List ℕ) → RiseWithin low high (a ++ x ∷ b) → (low < x) × (x ≤ high) × RiseWithin low (x - 1) a
before_number low high x [] b h = (h.0, h.1, tt)
before_number low high x (y ∷ a) b h =
    let rest : (y < x) × (x ≤ high) × RiseWithin y (x - 1) a = before_number y high x a b h.2 in
    let first : low < y = h.0 in
    let next : y < x = rest.0 in
    (omega arith, rest.1, (first, omega arith, rest.2))
