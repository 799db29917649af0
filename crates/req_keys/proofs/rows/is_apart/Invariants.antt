use Rattle.std.proofs.Common.{◌*◌}
use Rattle.req_keys.specs.inside.Rows.{AreApart}
use Rattle.req_keys.proofs.rows.is_apart.Given as goal

abbrev pub invariant-loop-j : goal.invariant-loop-j
invariant-loop-j l = AreApart (64 * l.j) l.fn.first l.fn.second
