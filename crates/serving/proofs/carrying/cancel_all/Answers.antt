use Rattle.std.proofs.Common.{arith, length, take, ◌<◌}
use Rattle.std.proofs.lemmas.List.{get_or_default}
use Rattle.serving.proofs.CarriedOrders.{marks-length, marks-wanted}
use Rattle.serving.proofs.carrying.cancel_all.Goals as goal

pub cancel-requires-clause-wanted : goal.cancel-requires-clause-wanted
cancel-requires-clause-wanted c =
    let i = c.numbers.number-index in
    let within : i < length c.args.numbers.now = omega arith in
    marks-wanted c.args.main.now.sees c.numbers.main.sees c.args.numbers.now i _ within (get_or_default c.args.numbers.now i 0 _ within) c.numbers.invariant.entries c.requires.once c.requires.wanted

pub returns-clause-as_many : goal.returns-clause-as_many
returns-clause-as_many c = marks-length (take c.numbers.number-index c.args.numbers.now) c.args.main.now.sees.entries c.numbers.main.sees.entries c.numbers.invariant.entries
