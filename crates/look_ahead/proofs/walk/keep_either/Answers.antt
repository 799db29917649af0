use Rattle.std.proofs.Common.{true}
use Rattle.std.specs.Prelude.{IsSome}
use Rattle.look_ahead.specs.inside.Levels.{asks_of, seen}
use Rattle.look_ahead.proofs.LevelSteps.{all-more, found-either, kept-either}
use Rattle.look_ahead.proofs.walk.keep_either.Goals as goal

pub returns-clause-next : goal.returns-clause-next
returns-clause-next g c =
    kept-either (seen g.A.Asker.wants g.A.Asker.told) true c.args.asker.now c.args.next.now.items c.keep.new.list.items c.keep-2.new.list.items c.in_ok-unsat.unsat c.in_ok-sat.sat c.in_ok-keep.ensures c.in_ok-unsat.ensures.next c.in_ok-keep-2.ensures c.in_ok-sat.ensures.next

pub returns-clause-asks : goal.returns-clause-asks
returns-clause-asks g c all =
    let look = seen g.A.Asker.wants g.A.Asker.told in
    all-more look (λ x. IsSome (asks_of (look x))) true c.keep.new.list.items c.keep-2.new.list.items c.in_ok-sat.sat
    (all-more look (λ x. IsSome (asks_of (look x))) true c.args.next.now.items c.keep.new.list.items c.in_ok-unsat.unsat all c.in_ok-keep.ensures c.in_ok-unsat.ensures.asks)
    c.in_ok-keep-2.ensures c.in_ok-sat.ensures.asks

pub returns-clause-found : goal.returns-clause-found
returns-clause-found g c =
    found-either (seen g.A.Asker.wants g.A.Asker.told) c.args.asker.now c.args.found.now.keys c.told_further.new.found.keys c.told_further-2.new.found.keys c.in_ok-unsat.ensures.found c.in_ok-sat.ensures.found
