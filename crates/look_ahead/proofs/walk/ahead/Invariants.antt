-- the askers after the words of so many verdicts, unless there are no longer ones, and what was found so far
use Rattle.std.proofs.Common.{◌≡◌, ◌<◌, map}
use Rattle.std.specs.Prelude.{All, IsSome}
use Rattle.look_ahead.specs.Ahead.{keys_ahead}
use Rattle.look_ahead.specs.inside.Levels.{asks_of, level_of, seen}
use Rattle.look_ahead.proofs.walk.ahead.Given as goal

abbrev pub invariant-lengths : goal.invariant-lengths
invariant-lengths g l = record {
  level : l.length < l.depth → map (seen g.A.Asker.wants g.A.Asker.told) l.level.items ≡ level_of (seen g.A.Asker.wants g.A.Asker.told l.asker) l.length;
  asks : All (λ a. IsSome (asks_of (seen g.A.Asker.wants g.A.Asker.told a))) l.level.items;
  found : l.found.keys ≡ keys_ahead (g.A.Asker.wants l.asker) (g.A.Asker.told l.asker) l.length;
}
