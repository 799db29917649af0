-- the entry still stands under the key
use Rattle.check_table.specs.Seats.{IsMainOf}
use Rattle.serving.specs.Entries.{StandsUnder}
use Rattle.serving.specs.inside.Staying.{Keeps, LeavesOthers}
use Rattle.serving.proofs.answering.answer_of.Given as goal

abbrev pub invariant-takes : goal.invariant-takes
invariant-takes g l =
    record {
      own : IsMainOf l.table l.main;
      keeps : Keeps l.initial.main.sees l.main.sees;
      leaves : LeavesOthers l.number l.initial.main.sees.entries l.main.sees.entries;
      stands : StandsUnder l.main.sees.entries l.number l.key;
    }
