use Rattle.std.proofs.Common.{◌≡◌, [], length}
use Rattle.uvl_lex.specs.inside.Cursors.{left}
use Rattle.uvl_lex.specs.Pieces.{pieces_from}
use Rattle.uvl_lex.specs.inside.Progress.{lines_after}
use Rattle.uvl_lex.specs.Reading.{run_of, on_ok, all_lines}
use Rattle.uvl_lex.proofs.lines.read_from.Given as goal

-- what the reader makes of the pieces that follow is the reading of the whole
abbrev pub invariant-pieces : goal.invariant-pieces
invariant-pieces l =
    on_ok all_lines (run_of [] (pieces_from l.fn.start.place (left l.fn.start))) ≡ lines_after l.reader (pieces_from l.cursor.place (left l.cursor))

abbrev pub decreases-pieces : goal.decreases-pieces
decreases-pieces l = length (left l.cursor)
