use Rattle.std.proofs.Common.{◌&&◌, nat_le, nat_lt}
use Rattle.req_keys.specs.inside.Rows.{HasBits}
use Rattle.req_keys.proofs.rows.range.Given as goal

abbrev pub invariant-loop-j : goal.invariant-loop-j
invariant-loop-j l = HasBits l.words.items l.j (λ i. nat_le l.fn.before i && nat_lt i l.fn.end)
