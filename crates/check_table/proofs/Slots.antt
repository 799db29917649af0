-- No two words of the entries stand at one place.
use Rattle.std.proofs.Common.{◌≡◌, ℕ, suc, ◌+◌, ◌*◌, ◌<◌, ◌≤◌, refl, arith, mul-le-mul_right, suc-mul}
use mathlib.Core.Logic.{dite}
use native.Mathlib.Decide.{dec_le, ℕ_discrete}
use Rattle.check_table.specs.Places.{slot}

further : (x y n : ℕ) → x < y → x * n + n ≤ y * n
further x y n h = let a : suc x * n ≤ y * n = mul-le-mul_right n h in omega (arith, suc-mul x n)

later : (w t u j k : ℕ) → t < u → j ≤ w → slot w t j < slot w u k
unfolding slot
later w t u j k before small = let far = further t u (1 + w) before in let x : ℕ = t * (1 + w) in let y : ℕ = u * (1 + w) in let far' : x + (1 + w) ≤ y = far in omega arith

pub same_entry : (w t u j k : ℕ) → j ≤ w → k ≤ w → slot w t j ≡ slot w u k → t ≡ u
same_entry w t u j k a b is = dite (ℕ_discrete t u) (λ e. e) (λ apart. dite (dec_le t u)
    (λ le. let l = later w t u j k (omega arith) a in absurd (omega arith))
    (λ gt. let l = later w u t k j (omega arith) b in absurd (omega arith)))

pub same_word : (w t j k : ℕ) → slot w t j ≡ slot w t k → j ≡ k
unfolding slot
same_word w t j k is = let x : ℕ = t * (1 + w) in let is' : 2 + x + j ≡ 2 + x + k = is in omega arith

pub slot_in : (w t j size : ℕ) → t < size → j ≤ w → slot w t j < 2 + size * (1 + w)
unfolding slot
slot_in w t j size before small = let far = further t size (1 + w) before in let x : ℕ = t * (1 + w) in let y : ℕ = size * (1 + w) in let far' : x + (1 + w) ≤ y = far in omega arith

pub slot_past : (w t j : ℕ) → 2 ≤ slot w t j
unfolding slot
slot_past w t j = let x : ℕ = t * (1 + w) in let p : 2 ≤ 2 + x + j = omega arith in p

pub slot_is : (w t j : ℕ) → slot w t j ≡ 2 + t * (1 + w) + j
unfolding slot
slot_is w t j = refl

-- the product fits a word
pub row_small : (w t : ℕ) → w ≤ 64 → t ≤ 4096 → t * (1 + w) ≤ 266240
row_small w t a b = native.Mathlib.Nat.mul-le-mul b (let p : 1 + w ≤ 65 = omega arith in p)
