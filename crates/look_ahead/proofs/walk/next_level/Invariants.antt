-- what the askers so far give
use Rattle.std.proofs.Common.{◌≡◌, [], cond, map, take}
use Rattle.std.specs.Prelude.{All, IsSome, fold}
use Rattle.look_ahead.specs.Ahead.{with_key}
use Rattle.look_ahead.specs.inside.Levels.{asks_of, keys_asked, next_level_of, seen}
use Rattle.look_ahead.proofs.walk.next_level.Given as goal

abbrev pub invariant-askers : goal.invariant-askers
invariant-askers g l =
    let done = next_level_of (map (seen g.A.Asker.wants g.A.Asker.told) (take l.asker-index l.level)) in
    record {
      next : map (seen g.A.Asker.wants g.A.Asker.told) l.next.items ≡ cond l.kept done [];
      asks : All (λ a. IsSome (asks_of (seen g.A.Asker.wants g.A.Asker.told a))) l.next.items;
      found : l.found.keys ≡ fold with_key l.fn.found.keys (keys_asked done);
    }
