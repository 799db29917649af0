use Rattle.std.proofs.Math.Facts.{Fits-lt-pow}
use Rattle.req_keys.proofs.RowLaws.{HasBits-push, difference-bit}
use Rattle.req_keys.proofs.rows.difference.Goals as goal

pub loop-j-preserved : goal.loop-j-preserved
loop-j-preserved c =
    rw c.in_ok-push.ensures.items
    (HasBits-push c.loop-j.words.items c.loop-j.j _ _ c.loop-j.invariant
    (λ b l. difference-bit c.args.first.now c.args.second.now c.loop-j.j b (Fits-lt-pow (c.type_inv.second c.loop-j.j)) l))
