-- Sets of positions as ascending lists: one within another, the positions outside a set, and one position more.
use Rattle.std.proofs.Common.{◌≡◌, ℕ, suc, ◌+◌, ◌-◌, ◌<◌, ◌≤◌, Bool, true, false, eqb, ltb, List, [], ◌∷◌, length, get_or, refl, sym, ◌∙◌, ap, ⊎_elim, arith}
use Rattle.std.specs.Prelude.{Contains, not}
use Rattle.std.specs.List.{range_with_len}
use Rattle.std.proofs.lemmas.Bool.{cases_Bool, eqb-true, false≢true}
use Rattle.std.proofs.lemmas.List.FromFn.{length-range_with_len, get_or-range_with_len}
use Rattle.lists.proofs.Members.{first as contains_first, later as contains_later, none as contains_none, first_or_later, from_filter, to_filter, all_from, all_at}
use Rattle.pref_sets.specs.Positions.{with_position, union}
use Rattle.pref_sets.specs.Preferred.{IsWithin}
use Rattle.pref_sets.proofs.AscendingPositions.{Ascends, union-all, union-ascends, union-cases}
use Rattle.pref_sets.proofs.RisingPositions.{Ascends-from_rises, rises-from_Ascends}
use Rattle.req_keys.specs.Positions.{RiseWithin, has}
use Rattle.req_keys.proofs.MemberLaws.{has-from_Contains, Contains-from_has, not_has-from_none}
use Rattle.req_keys.proofs.Rises.{members-within}
use Rattle.hs_tree.specs.Tree.{is_within, is_apart, without}

at_least : (x : ℕ) (a : List ℕ) → Ascends (x ∷ a) → (i : ℕ) → Contains (x ∷ a) i → x ≤ i
at_least x a h i m = ⊎_elim (λ (e : x ≡ i). omega arith) (λ (l : Contains a i). let above : x < i = h.0 i l in omega arith) (first_or_later x a i m)

rest-within : (x y : ℕ) (a b : List ℕ) → Ascends (x ∷ a) → y ≡ x → IsWithin (x ∷ a) (y ∷ b) → IsWithin a b
rest-within x y a b h same within i m =
    ⊎_elim
    (λ (e : y ≡ i). let above : x < i = h.0 i m in absurd (omega arith))
    (λ (l : Contains b i). l)
    (first_or_later y b i (within i (contains_later x a i m)))

all-within : (x y : ℕ) (a b : List ℕ) → Ascends (x ∷ a) → Ascends (y ∷ b) → Contains b x → IsWithin (x ∷ a) (y ∷ b) → IsWithin (x ∷ a) b
all-within x y a b h k later within i m =
    ⊎_elim
    (λ (e : y ≡ i).
    let below : y < x = k.0 x later in
    let high : x ≤ i = at_least x a h i m in
    absurd (omega arith))
    (λ (l : Contains b i). l)
    (first_or_later y b i (within i m))

-- a set within another has no more members, and with as many it is the other
pub fewer-within : (a b : List ℕ) → Ascends a → Ascends b → IsWithin a b → length a ≤ length b
fewer-within [] b h k within = omega arith
fewer-within (x ∷ a) [] h k within = absurd (contains_none x (within x (contains_first x a)))
fewer-within (x ∷ a) (y ∷ b) h k within =
    ⊎_elim
    (λ (same : y ≡ x). let rest : length a ≤ length b = fewer-within a b h.1 k.1 (rest-within x y a b h same within) in omega arith)
    (λ (later : Contains b x). let rest : length (x ∷ a) ≤ length b = fewer-within (x ∷ a) b h k.1 (all-within x y a b h k later within) in omega arith)
    (first_or_later y b x (within x (contains_first x a)))

pub same-within : (a b : List ℕ) → Ascends a → Ascends b → IsWithin a b → length b ≤ length a → a ≡ b
same-within [] [] h k within l = refl
same-within [] (y ∷ b) h k within l = absurd (omega arith)
same-within (x ∷ a) [] h k within l = absurd (contains_none x (within x (contains_first x a)))
same-within (x ∷ a) (y ∷ b) h k within l =
    ⊎_elim
    (λ (same : y ≡ x). let rest : a ≡ b = same-within a b h.1 k.1 (rest-within x y a b h same within) (omega arith) in cc)
    (λ (later : Contains b x). let few : length (x ∷ a) ≤ length b = fewer-within (x ∷ a) b h k.1 (all-within x y a b h k later within) in absurd (omega arith))
    (first_or_later y b x (within x (contains_first x a)))

-- the members of 1, 2, .., n
pub in-range : (n i : ℕ) → 0 < i → i ≤ n → Contains (range_with_len 1 n) i
in-range n i low high =
    let size : length (range_with_len 1 n) ≡ n = length-range_with_len 1 n in
    let value : get_or (range_with_len 1 n) (i - 1) i ≡ 1 + (i - 1) = get_or-range_with_len 1 n (i - 1) i (omega arith) in
    (i - 1, omega arith, value ∙ omega arith)

pub from-range : (n i : ℕ) → Contains (range_with_len 1 n) i → (0 < i) × (i ≤ n)
from-range n i m =
    let size : length (range_with_len 1 n) ≡ n = length-range_with_len 1 n in
    let place : m.0 < length (range_with_len 1 n) = m.1 in
    let value : get_or (range_with_len 1 n) m.0 i ≡ 1 + m.0 = get_or-range_with_len 1 n m.0 i (omega arith) in
    let same : i ≡ 1 + m.0 = sym m.2 ∙ value in
    (omega arith, omega arith)

pub rises-in_range : (n : ℕ) (set : List ℕ) → RiseWithin 0 n set → IsWithin set (range_with_len 1 n)
rises-in_range n set h i m = let both : (0 < i) × (i ≤ n) = members-within 0 n set h i m in in-range n i both.0 both.1

not-both : (b : Bool) → b ≡ true → not b ≡ true → ⊥
not-both true e f = false≢true f
not-both false e f = false≢true e

-- a test that fails where its opposite passes
pub passes-not : (b : Bool) → b ≡ false → not b ≡ true
passes-not true e = absurd (false≢true (sym e))
passes-not false e = refl

pub passes-not_false : (b : Bool) → not b ≡ false → b ≡ true
passes-not_false true e = refl
passes-not_false false e = absurd (false≢true (sym e))

-- the positions outside a set
pub without-out : (n : ℕ) (set : List ℕ) (i : ℕ) → Contains (without n set) i → ¬ Contains set i
without-out n set i m there = not-both (has set i) (has-from_Contains set i there) (from_filter (λ position. not (has set position)) (range_with_len 1 n) i m).1

pub without-range : (n : ℕ) (set : List ℕ) → IsWithin (without n set) (range_with_len 1 n)
without-range n set i m = (from_filter (λ position. not (has set position)) (range_with_len 1 n) i m).0

pub without-in : (n : ℕ) (set : List ℕ) (i : ℕ) → Contains (range_with_len 1 n) i → ¬ Contains set i → Contains (without n set) i
without-in n set i m out = to_filter (λ position. not (has set position)) (range_with_len 1 n) i m (passes-not (has set i) (not_has-from_none set i out))

pub without-fewer : (n : ℕ) (a b : List ℕ) → IsWithin a b → IsWithin (without n b) (without n a)
without-fewer n a b within i m = without-in n a i (without-range n b i m) (λ there. without-out n b i m (within i there))

-- the two tests on sets
pub within-from : (a b : List ℕ) → is_within a b ≡ true → IsWithin a b
within-from a b e i m = Contains-from_has b i (all_at (has b) a i e m)

pub within-to : (a b : List ℕ) → IsWithin a b → is_within a b ≡ true
within-to a b within = all_from (has b) a (λ i m. has-from_Contains b i (within i m))

pub apart-from : (a b : List ℕ) → is_apart a b ≡ true → (i : ℕ) → Contains a i → ¬ Contains b i
apart-from a b e i m there = not-both (has b i) (has-from_Contains b i there) (all_at (λ position. not (has b position)) a i e m)

-- a set with one position more
pub child-within : (x : ℕ) (set all : List ℕ) → IsWithin set all → Contains all x → IsWithin (with_position x set) all
child-within x set all within there = union-all (x ∷ []) set all (λ i m. ⊎_elim (λ (e : x ≡ i). rw (← e) there) (λ (l : Contains [] i). absurd (contains_none i l)) (first_or_later x [] i m)) within

pub child-rises : (n x : ℕ) (set : List ℕ) → RiseWithin 0 n set → Contains (range_with_len 1 n) x → RiseWithin 0 n (with_position x set)
child-rises n x set rises there =
    let both : (0 < x) × (x ≤ n) = from-range n x there in
    rises-from_Ascends 0 n (union (x ∷ []) set) (union-ascends (x ∷ []) set (Ascends-from_rises 0 n set rises))
    (λ y m.
    ⊎_elim
    (λ (new : Contains (x ∷ []) y). ⊎_elim (λ (e : x ≡ y). rw (← e) both) (λ (l : Contains [] y). absurd (contains_none y l)) (first_or_later x [] y new))
    (λ (old : Contains set y). members-within 0 n set rises y old)
    (union-cases (x ∷ []) set y m))

pub child-length : (x : ℕ) (set : List ℕ) → ¬ Contains set x → length (with_position x set) ≡ suc (length set)
child-length x [] out = refl
child-length x (y ∷ set) out =
    ⊎_elim
    (λ (below : ltb x y ≡ true). rw below refl)
    (λ (above : ltb x y ≡ false).
    ⊎_elim
    (λ (same : eqb x y ≡ true). absurd (out (rw (eqb-true x y same) (contains_first y set))))
    (λ (other : eqb x y ≡ false). rw (above, other) (ap (λ (k : ℕ). suc k) (child-length x set (λ m. out (contains_later y set x m)))))
    (cases_Bool (eqb x y)))
    (cases_Bool (ltb x y))
