use Rattle.std.proofs.Common.{◌≡◌, ◌≢◌, true, false, [], sym, ◌∙◌, ap}
use Rattle.std.proofs.lemmas.Result.{err_from_is_err_and}
use Rattle.uvl_lex.specs.inside.Cursors.{left}
use Rattle.uvl_lex.specs.Pieces.{pieces_from}
use Rattle.uvl_lex.specs.inside.Progress.{lines_after}
use Rattle.uvl_lex.proofs.CutLemmas.{pieces_next, pieces_none, fewer_left}
use Rattle.uvl_lex.proofs.lines.read_from.Goals as goal

pub pieces-preserved : goal.pieces-preserved
pieces-preserved c =
    let more : left c.pieces.cursor ≢ [] = λ e. let no : true ≡ false = sym (c.is_at_end.ensures.1 e) ∙ c.pieces-test.true in cc in
    let next = pieces_next c.pieces.cursor c.next_piece-what.result.1 c.next_piece-what.result.0 more c.next_piece-what.ensures in
    let taken = rw (c.place.ensures, c.place-in-pieces.ensures) at (c.in_ok-take.ensures.ok (pieces_from c.next_piece-what.result.1.place (left c.next_piece-what.result.1))) in
    c.pieces.invariant ∙ (ap (lines_after c.pieces.reader) next ∙ taken)

pub pieces-smaller : goal.pieces-smaller
pieces-smaller c =
    let more : left c.pieces.cursor ≢ [] = λ e. let no : true ≡ false = sym (c.is_at_end.ensures.1 e) ∙ c.pieces-test.true in cc in
    fewer_left c.pieces.cursor c.next_piece-what.result.1 c.next_piece-what.result.0 more c.next_piece-what.ensures

pub returns-in_err-take-clause-refused : goal.returns-in_err-take-clause-refused
returns-in_err-take-clause-refused c =
    let more : left c.pieces.cursor ≢ [] = λ e. let no : true ≡ false = sym (c.is_at_end.ensures.1 e) ∙ c.pieces-test.true in cc in
    let next = pieces_next c.pieces.cursor c.next_piece-what.result.1 c.next_piece-what.result.0 more c.next_piece-what.ensures in
    let refused = rw (c.place.ensures, c.place-in-pieces.ensures) at (c.in_err-take.ensures.refused (pieces_from c.next_piece-what.result.1.place (left c.next_piece-what.result.1))) in
    let p = err_from_is_err_and c.from_residual.result c.from_residual.ensures.1 in
    rw (p.1, p.2, c.pieces.invariant, next) refused

pub returns-clause-lines : goal.returns-clause-lines
returns-clause-lines c =
    let none : pieces_from c.pieces.cursor.place (left c.pieces.cursor) ≡ [] = pieces_none _ _ (c.is_at_end.ensures.0 c.pieces-test.false) in
    rw (c.pieces.invariant, none) c.finish.ensures.ok

pub returns-clause-refused : goal.returns-clause-refused
returns-clause-refused c =
    let none : pieces_from c.pieces.cursor.place (left c.pieces.cursor) ≡ [] = pieces_none _ _ (c.is_at_end.ensures.0 c.pieces-test.false) in
    rw (c.pieces.invariant, none) c.finish.ensures.refused
