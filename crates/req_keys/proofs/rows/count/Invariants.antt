use Rattle.std.proofs.Common.{◌≡◌, ◌-◌, ◌*◌, length}
use Rattle.std.specs.List.{range_with_len, filter}
use Rattle.req_keys.specs.Words.{bit_of}
use Rattle.req_keys.proofs.rows.count.Given as goal

abbrev pub invariant-loop-word : goal.invariant-loop-word
invariant-loop-word l = l.total ≡ length (filter (λ position. bit_of l.words (position - 1)) (range_with_len 1 (64 * l.word-index)))
