use Rattle.std.proofs.Common.{ℕ}
use Rattle.req_keys.specs.inside.Rows.{AreDone}
use Rattle.req_keys.proofs.rows.push_positions.Given as goal

abbrev pub invariant-bits : goal.invariant-bits
invariant-bits l = (done : ℕ) × AreDone l.first l.word l.fn.numbers l.numbers l.rest done

abbrev pub decreases-bits : goal.decreases-bits
decreases-bits l = l.rest
