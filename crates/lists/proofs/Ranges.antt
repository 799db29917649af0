-- Ranges of numbers: one number more, their parts, and their members.
use Rattle.std.proofs.Common.{◌≡◌, ◌∙◌, refl, sym, ap, ℕ, zero, suc, ◌+◌, ◌-◌, ◌<◌, ◌≤◌, List, [], ◌∷◌, ◌++◌, length, get_or, take, drop, arith, add-zero}
use Rattle.std.specs.Prelude.{Contains}
use Rattle.std.specs.List.{range_with_len}
use Rattle.std.proofs.lemmas.List.FromFn.{length-range_with_len, get_or-range_with_len}

-- one number more
pub range_with_len-push : (a m : ℕ) → range_with_len a (m + 1) ≡ range_with_len a m ++ (a + m) ∷ []
range_with_len-push a zero = rw add-zero refl
range_with_len-push a (suc m) =
    let more : suc m + 1 ≡ suc (m + 1) = omega arith in
    let last : (a + 1) + m ≡ a + suc m = omega arith in
    ap (range_with_len a) more ∙ ap (λ t. a ∷ t) (range_with_len-push (a + 1) m ∙ ap (λ k. range_with_len (a + 1) m ++ k ∷ []) last)

-- a range in two parts
pub range-append : (a m k : ℕ) → range_with_len a m ++ range_with_len (a + m) k ≡ range_with_len a (m + k)
range-append a zero k = let e : a + 0 ≡ a = omega arith in let f : 0 + k ≡ k = omega arith in rw (e, f) refl
range-append a (suc m) k =
    let e : a + suc m ≡ (a + 1) + m = omega arith in
    let f : suc m + k ≡ suc (m + k) = omega arith in
    rw (e, f) (ap (λ (t : List ℕ). a ∷ t) (range-append (a + 1) m k))

pub take-range : (k a m : ℕ) → k ≤ m → take k (range_with_len a m) ≡ range_with_len a k
take-range zero a m l = refl
take-range (suc k) a zero l = absurd (omega arith)
take-range (suc k) a (suc m) l = ap (λ (t : List ℕ). a ∷ t) (take-range k (a + 1) m (omega arith))

pub drop-range : (k a m : ℕ) → k ≤ m → drop k (range_with_len a m) ≡ range_with_len (a + k) (m - k)
drop-range zero a m l = let e : a + 0 ≡ a = omega arith in let f : m - 0 ≡ m = omega arith in rw (e, f) refl
drop-range (suc k) a zero l = absurd (omega arith)
drop-range (suc k) a (suc m) l =
    let e : a + suc k ≡ (a + 1) + k = omega arith in
    let f : suc m - suc k ≡ m - k = omega arith in
    rw (e, f) (drop-range k (a + 1) m (omega arith))

-- the members of a range from 0 are the numbers below its length
pub range-below : (n x : ℕ) → Contains (range_with_len 0 n) x → x < n
range-below n x m =
    let size = length-range_with_len 0 n in
    let place : m.0 < length (range_with_len 0 n) = m.1 in
    let within : m.0 < n = omega arith in
    let value : get_or (range_with_len 0 n) m.0 x ≡ 0 + m.0 = get_or-range_with_len 0 n m.0 x within in
    let same : x ≡ 0 + m.0 = sym m.2 ∙ value in
    omega arith

pub range-has : (n x : ℕ) → x < n → Contains (range_with_len 0 n) x
range-has n x l =
    let size : length (range_with_len 0 n) ≡ n = length-range_with_len 0 n in
    let within : x < length (range_with_len 0 n) = omega arith in
    let value : get_or (range_with_len 0 n) x x ≡ 0 + x = get_or-range_with_len 0 n x x l in
    (x, within, value ∙ omega arith)
