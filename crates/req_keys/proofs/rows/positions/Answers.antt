use Rattle.std.proofs.Common.{◌+◌, ◌*◌, ◌++◌, ◌∙◌, ap, sym, get_or}
use Rattle.req_keys.specs.inside.Rows.{positions_to}
use Rattle.req_keys.proofs.RowLaws.{shown_by-more}
use Rattle.req_keys.proofs.rows.positions.Goals as goal

pub loop-j-preserved : goal.loop-j-preserved
loop-j-preserved c =
    c.in_ok-push_positions.ensures
    ∙ ap (λ t. t ++ positions_to (64 * c.loop-j.j + 1) (get_or c.args.words.now c.loop-j.j 0) 64) c.loop-j.invariant
    ∙ sym (shown_by-more c.args.words.now c.loop-j.j)
