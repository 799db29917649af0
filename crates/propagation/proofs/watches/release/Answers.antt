use Rattle.std.proofs.Common.{◌∙◌, ap, subst, arith}
use Rattle.std.proofs.lemmas.List.{take_all}
use Rattle.propagation.specs.inside.Trails.{code_of}
use Rattle.propagation.specs.inside.Watching.{IsReleased}
use Rattle.propagation.proofs.CodeLaws.{item-there}
use Rattle.propagation.proofs.ReleaseLaws.{released-next}
use Rattle.propagation.proofs.watches.release.Goals as goal

pub loop-literal-preserved : goal.loop-literal-preserved
loop-literal-preserved c =
    let is = item-there c.args.watched.now c.loop-literal.literal-index c.literal-item.result c.literal-item.is c.loop-literal-test.true in
    released-next c.args.heads.now c.args.watched.now c.loop-literal.heads c.loop-literal.literal-index c.slot.result c.loop-literal-test.true (c.slot.ensures ∙ ap code_of is)
    (c.requires c.loop-literal.literal-index c.loop-literal-test.true) c.loop-literal.invariant

pub returns : goal.returns
returns c = subst (λ ls. IsReleased c.args.heads.now ls c.loop-literal.heads) (take_all c.loop-literal.literal-index c.args.watched.now (let end = c.loop-literal-test.false in omega arith)) c.loop-literal.invariant
