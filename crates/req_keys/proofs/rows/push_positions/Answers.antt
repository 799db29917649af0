use Rattle.std.proofs.Math.Facts.{Fits-lt-pow}
use Rattle.std.proofs.Common.{◌+◌}
use Rattle.std.specs.Int.{trailing_zeros}
use Rattle.std.proofs.Common.{w64}
use Rattle.req_keys.proofs.RowLaws.{AreDone-none, AreDone-more, AreDone-less, AreDone-all}
use Rattle.req_keys.proofs.rows.push_positions.Goals as goal

pub bits-init : goal.bits-init
bits-init c = (0, AreDone-none _ _ _)

pub bits-smaller : goal.bits-smaller
bits-smaller c = AreDone-less c.bits.rest (Fits-lt-pow c.bits.auto.rest-fits) c.bits-test.true

pub bits-preserved : goal.bits-preserved
bits-preserved c = (trailing_zeros w64 c.bits.rest + 1, AreDone-more _ _ _ _ _ _ _ (Fits-lt-pow c.bits.auto.rest-fits) c.bits-test.true c.bits.invariant.1 c.in_ok-push.ensures.ok)

pub returns : goal.returns
returns c = AreDone-all _ _ _ _ _ _ c.bits-test.false c.bits.invariant.1
