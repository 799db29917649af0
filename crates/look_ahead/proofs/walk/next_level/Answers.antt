use Rattle.std.proofs.Common.{◌<◌, length, map, arith}
use Rattle.look_ahead.specs.inside.Levels.{seen}
use Rattle.look_ahead.proofs.LevelSteps.{found-more, kept-more}
use Rattle.look_ahead.proofs.walk.next_level.Goals as goal

pub askers-preserved : goal.askers-preserved
askers-preserved g c =
    let look = seen g.A.Asker.wants g.A.Asker.told in
    let level = c.args.level.now in
    let i = c.askers.asker-index in
    let a = c.asker-item.result in
    let within : i < length level = omega arith in
    record {
      next = kept-more look c.args.kept level i a (map look c.askers.next.items) (map look c.tell_either.new.next.items) within c.asker-item.is c.askers.invariant.next c.in_ok-tell_either.ensures.next;
      asks = c.in_ok-tell_either.ensures.asks c.askers.invariant.asks;
      found = found-more look c.args.found.now.keys level i a c.askers.found.keys c.tell_either.new.found.keys within c.asker-item.is c.askers.invariant.found c.in_ok-tell_either.ensures.found;
    }
