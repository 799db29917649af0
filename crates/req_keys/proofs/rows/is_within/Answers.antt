use Rattle.std.proofs.Math.Facts.{Fits-lt-pow}
use Rattle.req_keys.proofs.RowLaws.{AreWithin-more, AreWithin-not}
use Rattle.req_keys.proofs.rows.is_within.Goals as goal

pub returns-then-first-j-ne0 : goal.returns-then-first-j-ne0
returns-then-first-j-ne0 c =
    let no = AreWithin-not c.args.first.now c.args.second.now c.loop-j.j _ c.loop-j-test.true (Fits-lt-pow (c.type_inv.first c.loop-j.j)) (Fits-lt-pow (c.type_inv.second c.loop-j.j)) c.if-first-j-ne0.true in
    (λ e. absurd (cc), λ h. absurd (no h))

pub loop-j-preserved : goal.loop-j-preserved
loop-j-preserved c =
    AreWithin-more c.args.first.now c.args.second.now c.loop-j.j (Fits-lt-pow (c.type_inv.second c.loop-j.j)) c.if-first-j-ne0.false c.loop-j.invariant
