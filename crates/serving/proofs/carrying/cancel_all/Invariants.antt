-- the entries so far have the mark
use Rattle.std.proofs.Common.{◌≡◌, take}
use Rattle.check_table.specs.Seats.{IsMainOf}
use Rattle.serving.specs.inside.Carrying.{with_marks}
use Rattle.serving.specs.inside.Staying.{Keeps}
use Rattle.serving.proofs.carrying.cancel_all.Given as goal

abbrev pub invariant-numbers : goal.invariant-numbers
invariant-numbers l =
    record {
      own : IsMainOf l.table l.main;
      keeps : Keeps l.initial.main.sees l.main.sees;
      entries : l.main.sees.entries ≡ with_marks (take l.number-index l.numbers) l.initial.main.sees.entries;
    }
