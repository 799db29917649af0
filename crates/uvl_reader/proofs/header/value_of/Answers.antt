use Rattle.std.proofs.Common.{ℕ, ◌<◌, ◌≤◌, ◌^◌, arith}
use Rattle.std.proofs.Math.Nat.{pow-le-pow_right}
use Rattle.uvl_reader.proofs.header.value_of.Goals as goal

bounded : (i value : ℕ) → i < 9 → value < 10 ^ i → value < 100000000
bounded i value few small =
    let most : 10 ^ i ≤ 10 ^ 8 = pow-le-pow_right {n = 10} (omega arith) {i = i} {j = 8} (omega arith) in
    omega (arith, most)

pub overflow_mul-value : goal.overflow_mul-value
overflow_mul-value c =
    let small = bounded c.loop-digit.digit-index c.loop-digit.value (omega arith) c.loop-digit.invariant.small in
    omega (arith, small)

pub overflow_add-value : goal.overflow_add-value
overflow_add-value c =
    let small = bounded c.loop-digit.digit-index c.loop-digit.value (omega arith) c.loop-digit.invariant.small in
    omega (arith, small)
