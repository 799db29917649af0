use Rattle.std.proofs.Common.{◌≡◌, ◌∷◌, ◌++◌, false, true, List, ℕ, ap, ◌∙◌}
use Rattle.diag_top.specs.Unindented.{lines_of, unindented, is_indented}
use Rattle.diag_top.proofs.LinesLemmas.{left_in, left_out}
use Rattle.diag_top.proofs.generated.unindented.Goals as goal

pub lines-preserved-in_ok-extend_from_slice : goal.lines-preserved-in_ok-extend_from_slice
lines-preserved-in_ok-extend_from_slice c =
    let line = c.split_at.result.0.now in
    let after = c.split_at.result.1.now in
    let cut : lines_of c.lines.rest.now ≡ line ∷ lines_of after = rw (c.split_at.ensures.front, c.split_at.ensures.back) c.first_line.ensures.cut in
    let plain : is_indented line ≡ false = (cc) in
    ap (λ (l : List ℕ). l ++ unindented after) c.in_ok-extend_from_slice.ensures.ok ∙ left_in c.lines.kept c.lines.rest.now line after (unindented c.args.text.now) plain cut c.lines.invariant

pub lines-preserved : goal.lines-preserved
lines-preserved c =
    let line = c.split_at.result.0.now in
    let after = c.split_at.result.1.now in
    let cut : lines_of c.lines.rest.now ≡ line ∷ lines_of after = rw (c.split_at.ensures.front, c.split_at.ensures.back) c.first_line.ensures.cut in
    let indented : is_indented line ≡ true = (cc) in
    left_out c.lines.kept c.lines.rest.now line after (unindented c.args.text.now) indented cut c.lines.invariant
