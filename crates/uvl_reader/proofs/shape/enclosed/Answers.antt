use Rattle.std.proofs.Common.{◌∙◌, arith}
use Rattle.uvl_reader.proofs.AttributeLaws.{enclosed_step}
use Rattle.uvl_reader.proofs.shape.enclosed.Goals as goal

pub loop-i-preserved : goal.loop-i-preserved
loop-i-preserved c = record {
  rest = c.loop-i.invariant.rest ∙ enclosed_step c.args.tokens.now c.loop-i.i c.loop-i.depth c.open_after-depth.result _ c.loop-i-test.true c.open_after-depth.ensures.is c.if-depth-eq0.false;
  some = omega arith;
  few = omega arith;
}
