use Rattle.std.proofs.Common.{arith}
use Rattle.serving.proofs.Tested.{look-length}
use Rattle.serving.proofs.tests.both_stand.Goals as goal

pub look-requires-then-eq-clause-posted : goal.look-requires-then-eq-clause-posted
look-requires-then-eq-clause-posted c =
    let same = look-length c.args.main.now.sees c.look.new.main.sees 0 _ _ c.look.ensures.view in
    let two = c.requires.posted in
    omega arith
