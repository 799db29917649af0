use Rattle.std.proofs.Common.{◌≡◌, true, refl, sym, ◌∙◌}
use Rattle.uvl_lex.specs.inside.Cursors.{left}
use Rattle.uvl_lex.specs.Pieces.{first, is_blank}
use Rattle.uvl_lex.proofs.PieceLemmas.{piece_is}
use Rattle.uvl_lex.proofs.ScanLemmas.{any_blank, blank_first, line_end_first}
use Rattle.uvl_lex.proofs.piece.next_piece.Goals as goal

pub returns-in-32 : goal.returns-in-32
returns-in-32 c =
    let h : is_blank (first (left c.args.cursor)) ≡ true = rw (← c.first.ensures) (any_blank _ c.in-32.is) in
    piece_is _ _ _ 1 1 (blank_first (left c.args.cursor) h) refl c.skip.ensures

pub returns-in-10 : goal.returns-in-10
returns-in-10 c = piece_is _ _ _ 1 1 (line_end_first (left c.args.cursor) (sym c.first.ensures ∙ c.in-10.is)) refl c.skip-in-10.ensures
