use Rattle.req_keys.proofs.RowLaws.{HasBits-push, range-bit}
use Rattle.req_keys.proofs.rows.range.Goals as goal

pub loop-j-preserved : goal.loop-j-preserved
loop-j-preserved c =
    rw c.in_ok-push.ensures.items
    (HasBits-push c.loop-j.words.items c.loop-j.j _ _ c.loop-j.invariant
    (λ b l. range-bit c.ones_to.result c.ones_to-in-loop-j.result _ b c.args.before c.args.end c.ones_to-in-loop-j.type_inv l (c.ones_to.ensures b l) (c.ones_to-in-loop-j.ensures b l)))
