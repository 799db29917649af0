use Rattle.std.proofs.Common.{◌+◌, refl, sym, ◌∙◌, ap, arith}
use Rattle.uvl_lex.proofs.CursorLemmas.{goes_then}
use Rattle.uvl_lex.proofs.MarkLemmas.{mark_result}
use Rattle.uvl_lex.proofs.PieceLemmas.{mark_is, piece_is}
use Rattle.uvl_lex.proofs.piece.mark.Goals as goal

pub returns-in-Some-default-eq1 : goal.returns-in-Some-default-eq1
returns-in-Some-default-eq1 c =
    let e = mark_is _ _ _ _ _ _ _ c.skip-one.ensures c.skip-two.ensures c.requires.some c.requires.next c.requires.other c.first.ensures c.first-2.ensures c.mark_of.ensures.value in
    piece_is _ _ _ 1 c.in-Some-default-eq1.field-0-1 (e ∙ ap mark_result c.in-Some-default-eq1.is) (sym c.in-Some-default-eq1.field-0-1-test) c.skip-one.ensures

pub returns-in-Some-default-eq2 : goal.returns-in-Some-default-eq2
returns-in-Some-default-eq2 c =
    let e = mark_is _ _ _ _ _ _ _ c.skip-one.ensures c.skip-two.ensures c.requires.some c.requires.next c.requires.other c.first.ensures c.first-2.ensures c.mark_of.ensures.value in
    piece_is _ _ _ (1 + 1) c.in-Some-default-eq2.field-0-1 (e ∙ ap mark_result c.in-Some-default-eq2.is) (sym c.in-Some-default-eq2.field-0-1-test) (goes_then c.skip-one.ensures c.skip-two.ensures)

pub returns-in-Some : goal.returns-in-Some
returns-in-Some c =
    let e = mark_is _ _ _ _ _ _ _ c.skip-one.ensures c.skip-two.ensures c.requires.some c.requires.next c.requires.other c.first.ensures c.first-2.ensures c.mark_of.ensures.value in
    let least = c.in-Some.ensures.width.0 in
    let most = c.in-Some.ensures.width.1 in
    piece_is _ _ _ (1 + 1 + 1) c.in-Some.field-0-1 (e ∙ ap mark_result c.in-Some.is) (omega arith) (goes_then (goes_then c.skip-one.ensures c.skip-two.ensures) c.skip.ensures)

pub returns-in-None : goal.returns-in-None
returns-in-None c =
    let e = mark_is _ _ _ _ _ _ _ c.skip-one.ensures c.skip-two.ensures c.requires.some c.requires.next c.requires.other c.first.ensures c.first-2.ensures c.mark_of.ensures.value in
    piece_is _ _ _ 1 1 (e ∙ ap mark_result c.in-None.is) refl c.skip-one.ensures
