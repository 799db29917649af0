use Rattle.std.proofs.Common.{◌≡◌, sym, ◌∙◌}
use Rattle.uvl_lex.specs.inside.Cursors.{left}
use Rattle.uvl_lex.specs.Pieces.{digits}
use Rattle.uvl_lex.proofs.CursorLemmas.{goes_then, goes_so}
use Rattle.uvl_lex.proofs.ScanLemmas.{fraction_is}
use Rattle.uvl_lex.proofs.piece.after_fraction.Goals as goal

pub returns-else-count-eq0 : goal.returns-else-count-eq0
returns-else-count-eq0 c =
    let count : c.skip_while-count.result.0 ≡ digits (left c.skip.result) = c.skip_while-count.ensures.count in
    let e = fraction_is (left c.args.cursor) (sym c.first.ensures ∙ c.if-first-ne46.false)
    (rw (← c.skip.ensures.rest, ← count) c.if-count-eq0.false) in
    goes_so (goes_then c.skip.ensures c.skip_while-count.ensures.after) _ (rw c.skip.ensures.rest e)
