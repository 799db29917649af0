use Rattle.std.proofs.Common.{◌≡◌, ◌==◌, ◌||◌, true}
use Rattle.uvl_lex.specs.inside.Cursors.{left}
use Rattle.uvl_lex.specs.Pieces.{digits, first}
use Rattle.uvl_lex.proofs.CursorLemmas.{goes_then, goes_so}
use Rattle.uvl_lex.proofs.ScanLemmas.{exponent_is, either_e}
use Rattle.uvl_lex.proofs.piece.after_exponent.Goals as goal
use Rattle.uvl_lex.proofs.piece.after_exponent.Goals.{in-e, in_default}

is_e : (c : goal.Else-count-eq0) → (first (left c.args.cursor) == 69 || first (left c.args.cursor) == 101) ≡ true
is_e c =
    elim c.match-matches.branch [
      | in-e w ↦ rw (← c.first.ensures) (either_e _ w.in-e.is)
      | in_default w ↦ let yes = c.if-not-matches.false in let no = w.matches-is in cc
    ]

pub returns-else-count-eq0 : goal.returns-else-count-eq0
returns-else-count-eq0 c =
    let count : c.skip_while-count.result.0 ≡ digits (left c.after_sign.result) = c.skip_while-count.ensures.count in
    let e = exponent_is (left c.args.cursor) (is_e c)
    (rw (← c.skip.ensures.rest, ← c.after_sign.ensures.rest, ← count) c.if-count-eq0.false) in
    goes_so (goes_then (goes_then c.skip.ensures c.after_sign.ensures) c.skip_while-count.ensures.after) _ (rw (c.after_sign.ensures.rest, c.skip.ensures.rest) e)
