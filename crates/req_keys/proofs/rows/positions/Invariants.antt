use Rattle.std.proofs.Common.{◌≡◌, ◌-◌, ◌*◌}
use Rattle.std.specs.List.{range_with_len, filter}
use Rattle.req_keys.specs.Words.{bit_of}
use Rattle.req_keys.proofs.rows.positions.Given as goal

abbrev pub invariant-loop-j : goal.invariant-loop-j
invariant-loop-j l = l.numbers ≡ filter (λ position. bit_of l.words (position - 1)) (range_with_len 1 (64 * l.j))
