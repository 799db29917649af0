use Rattle.uvl_lex.specs.inside.Cursors.{left}
use Rattle.uvl_lex.proofs.CursorLemmas.{goes_then}
use Rattle.uvl_lex.proofs.PieceLemmas.{piece_is}
use Rattle.uvl_lex.proofs.ScanLemmas.{at_number, number_is}
use Rattle.uvl_lex.proofs.piece.number.Goals as goal

pub returns : goal.returns
returns c =
    piece_is _ _ _ _ _ (at_number (left c.args.cursor) c.requires)
    (rw (c.after_fraction.ensures.rest, c.skip_while.ensures.after.rest) (number_is (left c.args.cursor) c.requires))
    (goes_then (goes_then c.skip_while.ensures.after c.after_fraction.ensures) c.after_exponent-end.ensures)
