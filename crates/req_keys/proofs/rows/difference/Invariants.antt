use Rattle.std.proofs.Common.{◌&&◌, not}
use Rattle.req_keys.specs.Words.{bit_of}
use Rattle.req_keys.specs.inside.Rows.{HasBits}
use Rattle.req_keys.proofs.rows.difference.Given as goal

abbrev pub invariant-loop-j : goal.invariant-loop-j
invariant-loop-j l = HasBits l.words.items l.j (λ i. bit_of l.fn.first i && not (bit_of l.fn.second i))
