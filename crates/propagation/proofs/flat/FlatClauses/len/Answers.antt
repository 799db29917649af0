use Rattle.std.proofs.Common.{ap, length, arith}
use Rattle.propagation.proofs.FlatLaws.{size}
use Rattle.propagation.proofs.flat.FlatClauses.len.Goals as goal

pub returns : goal.returns
returns c =
    let s = size 0 c.self.inside.ends.items c.self.inside.row.items in
    let v = ap length c.self.view_is in
    let l = c.len.ensures in
    omega arith
