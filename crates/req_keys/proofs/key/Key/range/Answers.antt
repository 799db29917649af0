use Rattle.std.proofs.Common.{ℕ, List, ap}
use Rattle.req_keys.specs.Key.{PositionSet}
use Rattle.req_keys.proofs.KeyRowLaws.{range-row, range-shown}
use Rattle.req_keys.proofs.key.Key.range.Goals as goal

pub invariant_of-result : goal.invariant_of-result
invariant_of-result c = range-row c.args.n c.args.before c.args.length c.in_ok-words.words.items c.requires.most c.requires.within c.in_ok-words.ensures

pub returns : goal.returns
returns c =
    let P : List ℕ → PositionSet = λ t. record { n = c.args.n; members = t } in
    ap P (range-shown c.args.n c.args.before c.args.length c.in_ok-words.words.items c.requires.within c.in_ok-words.ensures)
