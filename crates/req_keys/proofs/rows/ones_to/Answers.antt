use Rattle.std.proofs.Common.{◌≡◌, ◌-◌, ◌*◌, ◌^◌, ◌%◌, ◌<◌, ◌∙◌, ℕ, ap, min, arith}
use Rattle.std.specs.Prelude.{◌==◌}
use Rattle.std.specs.Int.{bit_at}
use Rattle.std.proofs.lemmas.Nat.{pow_below}
use Rattle.std.proofs.Math.Nat.{one-mul, mod-eq_of_lt}
use Rattle.req_keys.proofs.RowLaws.{ones_to-all, ones_to-some}
use Rattle.req_keys.proofs.rows.ones_to.Goals as goal

pub returns-then-count-eq64 : goal.returns-then-count-eq64
returns-then-count-eq64 c = λ b l. ones_to-all c.args.before c.args.end b (omega arith) l

pub returns-else-count-eq64 : goal.returns-else-count-eq64
returns-else-count-eq64 c = λ b l.
    let count : ℕ = c.min-count.result in
    let less : count < 64 = omega arith in
    let fits : 1 * 2 ^ count < 2 ^ 64 = rw one-mul (pow_below count 64 less) in
    let mask : 1 * 2 ^ count % 2 ^ 64 ≡ 2 ^ count = mod-eq_of_lt fits ∙ one-mul (2 ^ count) in
    ap (λ m. bit_at (m - 1) b == 1) mask ∙ ones_to-some c.args.before c.args.end count b (c.min-count.ensures ∙ ap (λ k. min k 64) c.saturating_sub.ensures) l
