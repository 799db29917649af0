use Rattle.std.proofs.Common.{◌≡◌, ◌+◌, drop, refl, sym, ◌∙◌, ap, arith}
use Rattle.std.specs.Prelude.{unwrap_or}
use Rattle.uvl_lex.specs.inside.Cursors.{left}
use Rattle.uvl_lex.specs.Pieces.{closed_after}
use Rattle.uvl_lex.proofs.CursorLemmas.{goes_then}
use Rattle.uvl_lex.proofs.PieceLemmas.{piece_is}
use Rattle.uvl_lex.proofs.ScanLemmas.{slash_line, slash_closed, slash_open, slash_alone, some_value}
use Rattle.uvl_lex.proofs.piece.slash.Goals as goal

pub returns-in-47 : goal.returns-in-47
returns-in-47 c =
    piece_is _ _ _ _ _ (slash_line (left c.args.cursor) c.requires (rw (c.first.ensures, c.skip-after.ensures.rest) at c.in-47.is)) refl c.skip_while.ensures.after

pub returns-in-Some : goal.returns-in-Some
returns-in-Some c =
    let same : left c.skip-inside.result ≡ drop 1 (drop 1 (left c.args.cursor)) = c.skip-inside.ensures.rest ∙ ap (drop 1) c.skip-after.ensures.rest in
    let o = some_value (closed_after (left c.skip-inside.result)) c.in-Some.ensures.0 in
    piece_is _ _ _ (1 + 1 + unwrap_or (closed_after (left c.skip-inside.result)) 0) _
    (slash_closed (left c.args.cursor) c.requires (rw (c.first.ensures, c.skip-after.ensures.rest) at c.in-42.is)
    (unwrap_or (closed_after (left c.skip-inside.result)) 0) (ap closed_after (sym same) ∙ o))
    (omega arith)
    (goes_then (goes_then c.skip-after.ensures c.skip-inside.ensures) c.in-Some.ensures.1)

pub returns-in-None : goal.returns-in-None
returns-in-None c =
    piece_is _ _ _ (1 + 1) 2
    (slash_open (left c.args.cursor) c.requires (rw (c.first.ensures, c.skip-after.ensures.rest) at c.in-42.is)
    (rw (c.skip-inside.ensures.rest, c.skip-after.ensures.rest) at c.in-None.ensures))
    refl
    (goes_then c.skip-after.ensures c.skip-inside.ensures)

pub returns-in_default : goal.returns-in_default
returns-in_default c =
    let line : c.first.result ≡ 47 → ⊥ = omega arith in
    let block : c.first.result ≡ 42 → ⊥ = omega arith in
    piece_is _ _ _ 1 1
    (slash_alone (left c.args.cursor) c.requires (rw (c.first.ensures, c.skip-after.ensures.rest) at line) (rw (c.first.ensures, c.skip-after.ensures.rest) at block))
    refl c.skip-after.ensures
