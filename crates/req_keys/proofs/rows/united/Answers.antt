use Rattle.req_keys.proofs.RowLaws.{HasBits-push, united-bit}
use Rattle.req_keys.proofs.rows.united.Goals as goal

pub loop-j-preserved : goal.loop-j-preserved
loop-j-preserved c =
    rw c.in_ok-push.ensures.items
    (HasBits-push c.loop-j.words.items c.loop-j.j _ _ c.loop-j.invariant
    (λ b l. united-bit c.args.first.now c.args.second.now c.loop-j.j b l))
