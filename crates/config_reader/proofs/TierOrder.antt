-- A list that is sorted by tier is, for each tier in turn, the requirements of that tier.
use Rattle.std.proofs.Common.{◌≡◌, ◌≢◌, ◌∙◌, refl, sym, ap, ⊎_elim, ℕ, zero, suc, ◌+◌, ◌<◌, ◌≤◌, ◌==◌, nat_lt, Bool, true, false, cond, not, ◌&&◌, List, [], ◌∷◌, length, get_or, filter, All, arith}
use Rattle.std.specs.List.{flat_map, range_with_len}
use Rattle.std.specs.List.Sorted.{IsNonDecreasingBy, IsPermutation, IsStableBy, ties}
use Rattle.std.specs.declared.cmp.Ordering.TheVariants.{Less, Equal, Greater}
use Rattle.std.specs.Ordering.{is_lt, nat_cmp}
use Rattle.std.proofs.lemmas.Bool.{false_from_ne_true, eqb-true, eq-eqb}
use Rattle.std.proofs.lemmas.Bool.Decides.{eqb_tells, nat_tests}
use Rattle.std.proofs.lemmas.List.Elements.{All-nil, All-cons, All-head, All-tail}
use Rattle.std.proofs.lemmas.List.Sorted.{All-permutation, length_permutation}
use Rattle.config_reader.specs.declared.config.Requirement.{Requirement}
use Rattle.config_reader.specs.declared.placed.Placed.{Placed}
use Rattle.config_reader.specs.Tiers.{of_tier, highest, in_order}

-- two lists with the same parts of each tier have the same parts of some tiers
pub same_parts : (xs ys : List Placed) (low count : ℕ) → ((tier : ℕ) → low ≤ tier → of_tier xs tier ≡ of_tier ys tier) → flat_map (of_tier xs) (range_with_len low count) ≡ flat_map (of_tier ys) (range_with_len low count)
same_parts xs ys low zero same = refl
same_parts xs ys low (suc count) same =
    let first : of_tier xs low ≡ of_tier ys low = same low (omega arith) in
    let rest : flat_map (of_tier xs) (range_with_len (low + 1) count) ≡ flat_map (of_tier ys) (range_with_len (low + 1) count) = same_parts xs ys (low + 1) count (λ tier l. same tier (omega arith)) in
    rw (first, rest) refl

-- one of another tier is in no part
pub of_tier-other : (one : Placed) (xs : List Placed) (tier : ℕ) → one.tier ≢ tier → of_tier (one ∷ xs) tier ≡ of_tier xs tier
of_tier-other one xs tier other =
    let no : (one.tier == tier) ≡ false = false_from_ne_true (one.tier == tier) (λ e. other (eqb-true one.tier tier e)) in
    rw no refl

pub of_tier-same : (one : Placed) (xs : List Placed) (tier : ℕ) → one.tier ≡ tier → of_tier (one ∷ xs) tier ≡ one ∷ of_tier xs tier
of_tier-same one xs tier same =
    let yes : (one.tier == tier) ≡ true = eq-eqb one.tier tier same in
    rw yes refl

-- no part of a tier that is lower than all of them
pub of_tier-below : (xs : List Placed) (tier : ℕ) → ((k : ℕ) (d : Placed) → k < length xs → tier < (get_or xs k d).tier) → of_tier xs tier ≡ []
of_tier-below [] tier above = refl
of_tier-below (one ∷ xs) tier above =
    let first : tier < one.tier = above 0 one (omega arith) in
    of_tier-other one xs tier (λ e. omega arith) ∙ of_tier-below xs tier (λ k d l. above (suc k) d (omega arith))

-- one whose tier is the lowest comes first
pub lowest_first : (one : Placed) (xs : List Placed) (low count : ℕ) → low ≤ one.tier → one.tier < low + count → ((k : ℕ) (d : Placed) → k < length xs → one.tier ≤ (get_or xs k d).tier)
    → flat_map (of_tier (one ∷ xs)) (range_with_len low count) ≡ one ∷ flat_map (of_tier xs) (range_with_len low count)
lowest_first one xs low zero l m above = absurd (omega arith)
lowest_first one xs low (suc count) l m above =
    ⊎_elim
    (λ (same : ((one.tier == low) ≡ true) × (one.tier ≡ low)).
    let first : of_tier (one ∷ xs) low ≡ one ∷ of_tier xs low = of_tier-same one xs low same.1 in
    let rest : flat_map (of_tier (one ∷ xs)) (range_with_len (low + 1) count) ≡ flat_map (of_tier xs) (range_with_len (low + 1) count)
    = same_parts (one ∷ xs) xs (low + 1) count (λ tier n. of_tier-other one xs tier (λ e. let h = same.1 in omega arith)) in
    rw (first, rest) refl)
    (λ (other : ((one.tier == low) ≡ false) × (one.tier ≢ low)).
    let apart : one.tier ≢ low = other.1 in
    let here : of_tier xs low ≡ [] = of_tier-below xs low (λ k d n. let h : one.tier ≤ (get_or xs k d).tier = above k d n in omega arith) in
    let first : of_tier (one ∷ xs) low ≡ [] = of_tier-other one xs low apart ∙ here in
    let rest = lowest_first one xs (low + 1) count (omega arith) (omega arith) above in
    rw (first, here) rest)
    (eqb_tells one.tier low)

none : (low count : ℕ) → flat_map (of_tier []) (range_with_len low count) ≡ []
none low zero = refl
none low (suc count) = none (low + 1) count

pub parts_of_sorted : (xs : List Placed) (count : ℕ) → IsNonDecreasingBy (λ (one : Placed). one.tier) xs → All (λ (one : Placed). one.tier < count) xs → flat_map (of_tier xs) (range_with_len 0 count) ≡ xs
parts_of_sorted [] count sorted below = none 0 count
parts_of_sorted (one ∷ xs) count sorted below =
    let first : one.tier < count = All-head (λ (one : Placed). one.tier < count) one xs below in
    lowest_first one xs 0 count (omega arith) (omega arith) (λ k d l. sorted 0 (suc k) d (omega arith) (omega arith))
    ∙ ap (λ (rest : List Placed). one ∷ rest) (parts_of_sorted xs count (λ i j d l m. sorted (suc i) (suc j) d (omega arith) (omega arith)) (All-tail (λ (one : Placed). one.tier < count) one xs below))

below_highest : (xs : List Placed) (count : ℕ) → highest xs < count → All (λ (one : Placed). one.tier < count) xs
below_highest [] count l = All-nil (λ (one : Placed). one.tier < count)
below_highest (one ∷ xs) count l = All-cons (λ (one : Placed). one.tier < count) one xs (omega arith) (below_highest xs count (omega arith))

-- what the order of tiers leaves beside each other is of one tier
abbrev lower : Placed → Placed → Bool
lower one other = is_lt (nat_cmp one.tier other.tier)

lt_by : (below same : Bool) → is_lt (cond below Less (cond same Equal Greater)) ≡ below
lt_by true same = refl
lt_by false true = refl
lt_by false false = refl

tie_is : (a b : ℕ) → (not (is_lt (nat_cmp a b)) && not (is_lt (nat_cmp b a))) ≡ (b == a)
tie_is a b = rw (lt_by (nat_lt a b) (a == b), lt_by (nat_lt b a) (b == a)) (grind (arith, nat_tests))

ties_are_of_tier : (one : Placed) (xs : List Placed) → filter (ties lower one) xs ≡ of_tier xs one.tier
ties_are_of_tier one [] = refl
ties_are_of_tier one (x ∷ xs) = rw (tie_is one.tier x.tier, ties_are_of_tier one xs) refl

same_tiers : (xs ys : List Placed) → IsStableBy lower xs ys → (requirement : Requirement) (tier : ℕ) → of_tier xs tier ≡ of_tier ys tier
same_tiers xs ys stable requirement tier =
    let one : Placed = record { tier = tier; requirement = requirement } in
    sym (ties_are_of_tier one xs) ∙ sym (stable one) ∙ ties_are_of_tier one ys

empty : (xs : List Placed) → length xs ≡ 0 → xs ≡ []
empty [] e = refl
empty (one ∷ xs) e = absurd (omega arith)

-- a stable sort by tier puts the requirements in their order
pub sorted_is_in_order : (xs ys : List Placed) → IsPermutation xs ys → IsNonDecreasingBy (λ (one : Placed). one.tier) ys → IsStableBy lower xs ys → ys ≡ in_order xs
sorted_is_in_order [] ys moved sorted stable = empty ys (length_permutation [] ys moved)
sorted_is_in_order (one ∷ xs) ys moved sorted stable =
    let count = highest (one ∷ xs) + 1 in
    let below : All (λ (one : Placed). one.tier < count) ys = All-permutation (λ (one : Placed). one.tier < count) (one ∷ xs) ys moved (below_highest (one ∷ xs) count (omega arith)) in
    sym (parts_of_sorted ys count sorted below)
    ∙ sym (same_parts (one ∷ xs) ys 0 count (λ tier l. same_tiers (one ∷ xs) ys stable one.requirement tier))
