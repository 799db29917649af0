-- the keys so far are posted
use Rattle.std.proofs.Common.{◌≡◌, ◌++◌, map, take}
use Rattle.check_table.specs.Seats.{IsMainOf}
use Rattle.check_table.specs.Views.{fresh_entry}
use Rattle.serving.specs.inside.Staying.{Keeps}
use Rattle.serving.proofs.carrying.post_all.Given as goal

abbrev pub invariant-keys : goal.invariant-keys
invariant-keys l =
    record {
      own : IsMainOf l.table l.main;
      keeps : Keeps l.initial.main.sees l.main.sees;
      entries : l.main.sees.entries ≡ l.initial.main.sees.entries ++ map fresh_entry (take l.key-index l.keys);
    }
