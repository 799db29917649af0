use Rattle.std.proofs.Common.{◌≡◌, ◌∙◌, sym, ap, ◌+◌, ◌-◌, ◌*◌, ◌<◌, ℕ, drop, get_or, arith}
use Rattle.std.specs.Str.Parse.{digits_value, digits_value_after}
use Rattle.certificate.proofs.NumberLaws.{digit-is, value-step, none-beyond}
use Rattle.certificate.proofs.numbers.number_within.Goals as goal

pub returns-then-number-from-clause-number : goal.returns-then-number-from-clause-number
returns-then-number-from-clause-number c =
    let word = c.args.word.now in
    let i = c.loop-digit.digit-index in
    let digit = get_or word i 0 in
    let n = c.loop-digit.number * 10 + (digit - 48) in
    let digits = c.if-not-is_ascii_digit.ensures.bound in
    let value : digits_value 10 word ≡ digits_value_after 10 n (drop (i + 1) word) =
    c.loop-digit.invariant.value ∙ value-step word i c.loop-digit-test.true c.loop-digit.number
    ∙ ap (λ (d : ℕ). digits_value_after 10 (c.loop-digit.number * 10 + d) (drop (i + 1) word)) (digit-is digit c.if-not-is_ascii_digit.ensures.cases.0 c.if-not-is_ascii_digit.ensures.cases.1) in
    let above : c.args.most < n = omega arith in
    sym (none-beyond c.args.most word (i + 1) n value above)
