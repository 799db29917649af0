-- What QuickXplain finds among some positions isn't empty, whatever the answers.
use Rattle.std.proofs.Common.{◌≡◌, ℕ, zero, suc, ◌+◌, ◌<◌, ◌≤◌, List, [], ◌∷◌, ◌++◌, length, refl, subst, arith}
use Rattle.std.specs.Prelude.{Contains}
use Rattle.lists.proofs.Members.{first as contains_first}
use Rattle.pref_sets.specs.Answers.{Answer, Next, Ask, Done, and_then}
use Rattle.pref_sets.specs.Positions.{union, lower_half, upper_half}
use Rattle.pref_sets.specs.QuickXplain.{qx, qx_part}
use Rattle.pref_sets.proofs.AscendingPositions.{halves-length, union-has}

-- a part that is done, and what follows it
and_then-done : (next : Next) (follow : List ℕ → Next) (found : List ℕ) → and_then next follow ≡ Done found → (set : List ℕ) × (next ≡ Done set) × (follow set ≡ Done found)
and_then-done (Ask set) follow found e = absurd (cc)
and_then-done (Done set) follow found e = (set, refl, e)

member-some : (xs : List ℕ) (x : ℕ) → Contains xs x → 0 < length xs
member-some xs x m = let place : m.0 < length xs = m.1 in omega arith

union-some : (a b : List ℕ) → 0 < length a + length b → 0 < length (union a b)
union-some [] b l = omega arith
union-some (p ∷ a) b l = member-some (union (p ∷ a) b) p (union-has (p ∷ a) b p (contains_first p (a ++ b)))

part-some : (count : ℕ) (table : List Answer) (background positions found : List ℕ) → length positions ≤ count → 0 < length positions → qx_part count table background [] positions ≡ Done found → 0 < length found
part-some zero table background positions found few some e = absurd (omega arith)
part-some (suc count) table background [] found few some e = absurd (omega arith)
part-some (suc count) table background (position ∷ []) found few some e =
    let same : position ∷ [] ≡ found = cc in
    subst (λ (f : List ℕ). 0 < length f) same (omega arith)
part-some (suc count) table background (position ∷ next ∷ rest) found few some e =
    let all : List ℕ = position ∷ next ∷ rest in
    let halves = halves-length all (omega arith) in
    let low : 0 < length (lower_half all) = halves.0 in
    let high : 0 < length (upper_half all) = halves.1 in
    let sum : length (lower_half all) + length (upper_half all) ≡ length all = halves.2 in
    let most : length all ≤ suc count = few in
    let upper = and_then-done (qx_part count table (union background (lower_half all)) (lower_half all) (upper_half all)) _ found e in
    let lower = and_then-done (qx_part count table (union background upper.0) upper.0 (lower_half all)) _ found upper.2 in
    let end : Done (union lower.0 upper.0) ≡ Done found = lower.2 in
    let whole : union lower.0 upper.0 ≡ found = cc in
    subst (λ (f : List ℕ). 0 < length f) whole
    (by (λ behind left is. part-some count table behind (lower_half all) left (omega arith) low is) upper.0 lower.0 lower.1)
  where
    by : ((behind left : List ℕ) → qx_part count table behind [] (lower_half (position ∷ next ∷ rest)) ≡ Done left → 0 < length left)
        → (upper lower : List ℕ) → qx_part count table (union background upper) upper (lower_half (position ∷ next ∷ rest)) ≡ Done lower → 0 < length (union lower upper)
    by lowest [] lower is = let some_lower = lowest (union background []) lower is in union-some lower [] (omega arith)
    by lowest (one ∷ upper) lower is = union-some lower (one ∷ upper) (omega arith)

pub found-some : (positions found : List ℕ) (table : List Answer) → 0 < length positions → qx positions table ≡ Done found → 0 < length found
found-some positions found table some e = part-some (length positions) table [] positions found (omega arith) some e
