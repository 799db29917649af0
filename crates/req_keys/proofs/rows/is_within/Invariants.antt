use Rattle.std.proofs.Common.{◌*◌}
use Rattle.req_keys.specs.inside.Rows.{AreWithin}
use Rattle.req_keys.proofs.rows.is_within.Given as goal

abbrev pub invariant-loop-j : goal.invariant-loop-j
invariant-loop-j l = AreWithin (64 * l.j) l.fn.first l.fn.second
