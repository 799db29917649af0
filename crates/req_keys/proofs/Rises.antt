-- Lists that rise within bounds: one behind the other, their members, and the key of two.
use Rattle.std.proofs.Common.{◌≡◌, ℕ, zero, suc, ◌+◌, ◌<◌, ◌≤◌, ◌-◌, ◌||◌, List, [], ◌∷◌, ◌++◌, length, refl, sym, ◌∙◌, ap, ⊎_elim, arith}
use Rattle.std.specs.Prelude.{Contains}
use Rattle.std.specs.List.{range_with_len}
use Rattle.std.proofs.lemmas.List.Folds.{list_any-append}
use Rattle.req_keys.specs.Key.{PositionSet, union_of}
use Rattle.req_keys.specs.Positions.{RiseWithin, has, positions_where}
use Rattle.req_keys.specs.Wanting.{key_over}
use Rattle.req_keys.proofs.PositionsLaws.{filter-range_agree, positions_where-has, RiseWithin-lower, length-RiseWithin}
use Rattle.lists.proofs.Members.{none as contains_none, first_or_later}

pub RiseWithin-higher : (low high higher : ℕ) (xs : List ℕ) → high ≤ higher → RiseWithin low high xs → RiseWithin low higher xs
RiseWithin-higher low high higher [] l h = tt
RiseWithin-higher low high higher (x ∷ xs) l h = (h.0, (let le : x ≤ high = h.1 in omega arith), RiseWithin-higher x high higher xs l h.2)

-- one list behind another
pub RiseWithin-append : (low middle high : ℕ) (xs ys : List ℕ) → RiseWithin low middle xs → RiseWithin middle high ys → low ≤ middle → middle ≤ high → RiseWithin low high (xs ++ ys)
RiseWithin-append low middle high [] ys h k l m = RiseWithin-lower middle low high ys l k
RiseWithin-append low middle high (x ∷ xs) ys h k l m = (h.0, (let le : x ≤ middle = h.1 in omega arith), RiseWithin-append x middle high xs ys h.2 k h.1 m)

-- a list with as many members as there is room for has them all
pub rises-all : (low m : ℕ) (xs : List ℕ) → RiseWithin low (low + m) xs → length xs ≡ m → xs ≡ range_with_len (low + 1) m
rises-all low zero [] h e = refl
rises-all low zero (x ∷ xs) h e = absurd (omega arith)
rises-all low (suc m) [] h e = absurd (omega arith)
rises-all low (suc m) (x ∷ xs) h e =
    let above : low < x = h.0 in
    let few : length xs ≤ (low + suc m) - x = length-RiseWithin x (low + suc m) xs h.2 in
    let first : x ≡ low + 1 = omega arith in
    let high : low + suc m ≡ (low + 1) + m = omega arith in
    let rest : RiseWithin (low + 1) ((low + 1) + m) xs = rw (first, high) at h.2 in
    rw first (ap (λ (t : List ℕ). (low + 1) ∷ t) (rises-all (low + 1) m xs rest (omega arith)))

pub members-within : (low high : ℕ) (xs : List ℕ) → RiseWithin low high xs → (y : ℕ) → Contains xs y → (low < y) × (y ≤ high)
members-within low high [] h y m = absurd (contains_none y m)
members-within low high (x ∷ xs) h y m =
    let above : low < x = h.0 in
    let below : x ≤ high = h.1 in
    ⊎_elim
    (λ (same : x ≡ y). (omega arith, omega arith))
    (λ (later : Contains xs y).
    let rest : (x < y) × (y ≤ high) = members-within x high xs h.2 y later in
    let first : x < y = rest.0 in
    (omega arith, rest.1))
    (first_or_later x xs y m)

-- a list is parted at a place in one way
pub parted-same : (at low other high higher : ℕ) (a b c d : List ℕ) → RiseWithin low at a → RiseWithin other at c → RiseWithin at high b → RiseWithin at higher d → a ++ b ≡ c ++ d → (a ≡ c) × (b ≡ d)
parted-same at low other high higher [] b [] d h k m n e = (refl, e)
parted-same at low other high higher [] [] (y ∷ c) d h k m n e = absurd (cc)
parted-same at low other high higher [] (x ∷ b) (y ∷ c) d h k m n e =
    let same : x ≡ y = cc in
    let above : at < x = m.0 in
    let below : y ≤ at = k.1 in
    absurd (omega arith)
parted-same at low other high higher (x ∷ a) b [] [] h k m n e = absurd (cc)
parted-same at low other high higher (x ∷ a) b [] (y ∷ d) h k m n e =
    let same : x ≡ y = cc in
    let above : at < y = n.0 in
    let below : x ≤ at = h.1 in
    absurd (omega arith)
parted-same at low other high higher (x ∷ a) b (y ∷ c) d h k m n e =
    let same : x ≡ y = cc in
    let rest : a ++ b ≡ c ++ d = cc in
    let both : (a ≡ c) × (b ≡ d) = parted-same at x y high higher a b c d h.2 k.2 m n rest in
    let first : a ≡ c = both.0 in
    (cc, both.1)

-- the key of two lists, one below the other
pub union-behind : (n : ℕ) (a b : List ℕ) → RiseWithin 0 n (a ++ b) → positions_where n (λ i. has a i || has b i) ≡ a ++ b
union-behind n a b h = filter-range_agree (λ i. has a i || has b i) (has (a ++ b)) 1 n (λ i l u. sym (list_any-append _ a b)) ∙ positions_where-has n 0 (a ++ b) h

pub union_of-behind : (n middle high : ℕ) (a b : PositionSet) → a.n ≡ n → RiseWithin 0 middle a.members → RiseWithin middle high b.members → middle ≤ high → high ≤ n → union_of a b ≡ key_over n (a.members ++ b.members)
union_of-behind n middle high a b e h k l m =
    let all : RiseWithin 0 n (a.members ++ b.members) = RiseWithin-higher 0 high n (a.members ++ b.members) m (RiseWithin-append 0 middle high a.members b.members h k (omega arith) l) in
    rw e (ap (key_over n) (union-behind n a.members b.members all))
