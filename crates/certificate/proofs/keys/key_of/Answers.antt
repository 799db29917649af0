use Rattle.std.proofs.Common.{◌∙◌, sym, ap, subst, ◌≤◌, get_or, arith}
use Rattle.req_keys.specs.Key.{PositionSet, key_with}
use Rattle.certificate.proofs.KeyLaws.{key-more}
use Rattle.certificate.proofs.ProductLaws.{position-within}
use Rattle.certificate.proofs.keys.key_of.Goals as goal

pub with-requires-clause-counted : goal.with-requires-clause-counted
with-requires-clause-counted c =
    let above = (position-within 0 c.args.n c.args.numbers.now c.requires.rising c.loop-number.number-index c.loop-number-test.true).0 in omega arith

pub with-requires-clause-within : goal.with-requires-clause-within
with-requires-clause-within c =
    let within = (position-within 0 c.args.n c.args.numbers.now c.requires.rising c.loop-number.number-index c.loop-number-test.true).1 in
    subst (λ (key : PositionSet). get_or c.args.numbers.now c.loop-number.number-index 0 ≤ key.n) (sym c.loop-number.invariant) within

pub loop-number-preserved : goal.loop-number-preserved
loop-number-preserved c =
    c.in_ok-key-2.ensures
    ∙ ap (λ (key : PositionSet). key_with key (get_or c.args.numbers.now c.loop-number.number-index 0)) c.loop-number.invariant
    ∙ key-more c.args.n c.loop-number.number-index c.args.numbers.now c.requires.rising c.loop-number-test.true
