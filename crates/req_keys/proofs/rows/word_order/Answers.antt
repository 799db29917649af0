use Rattle.std.proofs.Math.Facts.{Fits-lt-pow}
use Rattle.std.specs.Int.{trailing_zeros}
use Rattle.std.proofs.Common.{w64, bit_xor}
use Rattle.req_keys.proofs.RowLaws.{differing, in_second, in_first}
use Rattle.req_keys.proofs.rows.word_order.Goals as goal

pub overflow_shr-second : goal.overflow_shr-second
overflow_shr-second c = (differing c.args.first c.args.second (Fits-lt-pow c.ranges.first) (Fits-lt-pow c.ranges.second) c.requires).0

pub returns-then-second-place-eq1 : goal.returns-then-second-place-eq1
returns-then-second-place-eq1 c = (trailing_zeros w64 (bit_xor c.args.first c.args.second), in_second c.args.first c.args.second (Fits-lt-pow c.ranges.first) (Fits-lt-pow c.ranges.second) c.requires c.if-second-place-eq1.true)

pub returns-else-second-place-eq1 : goal.returns-else-second-place-eq1
returns-else-second-place-eq1 c = (trailing_zeros w64 (bit_xor c.args.first c.args.second), in_first c.args.first c.args.second (Fits-lt-pow c.ranges.first) (Fits-lt-pow c.ranges.second) c.requires c.if-second-place-eq1.false)
