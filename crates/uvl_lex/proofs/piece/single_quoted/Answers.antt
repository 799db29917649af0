use Rattle.std.proofs.Common.{◌≡◌, ◌+◌, refl, arith}
use Rattle.std.specs.List.{prefix_len}
use Rattle.uvl_lex.specs.inside.Cursors.{left}
use Rattle.uvl_lex.specs.Pieces.{inside_len, is_inside, apostrophe}
use Rattle.uvl_lex.proofs.CursorLemmas.{goes_then}
use Rattle.uvl_lex.proofs.PieceLemmas.{piece_is}
use Rattle.uvl_lex.proofs.ScanLemmas.{single_text, single_open}
use Rattle.uvl_lex.proofs.piece.single_quoted.Goals as goal

pub returns-then-first-ne39 : goal.returns-then-first-ne39
returns-then-first-ne39 c =
    piece_is _ _ _ 1 1
    (single_open (left c.args.cursor) c.requires (rw (c.first.ensures, c.skip_while.ensures.after.rest, c.skip-inside.ensures.rest) at c.if-first-ne39.true))
    refl c.skip-inside.ensures

pub returns : goal.returns
returns c =
    let n : prefix_len (is_inside apostrophe) (left c.skip-inside.result) ≡ inside_len apostrophe (left c.args.cursor)
    = rw c.skip-inside.ensures.rest refl in
    piece_is _ _ _ _ (inside_len apostrophe (left c.args.cursor) + 2)
    (single_text (left c.args.cursor) c.requires (rw (c.first.ensures, c.skip_while.ensures.after.rest, c.skip-inside.ensures.rest) at c.if-first-ne39.false))
    (omega arith)
    (goes_then (goes_then c.skip-inside.ensures c.skip_while.ensures.after) c.skip.ensures)
