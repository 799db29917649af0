use Rattle.std.proofs.Common.{◌∙◌}
use Rattle.hs_tree.proofs.ChildKeys.{label-bounds, put-over, put-sets}
use Rattle.hs_tree.proofs.levels.add_children.Goals as goal

pub with-requires-clause-counted : goal.with-requires-clause-counted
with-requires-clause-counted c =
    (label-bounds c.args.set.now.n c.args.label.now c.as_slice-position-items.result.now c.loop-position.position-index c.requires.label (c.as_slice-position-items.ensures ∙ c.in_ok-positions.ensures) c.loop-position-test.true).0

pub with-requires-clause-within : goal.with-requires-clause-within
with-requires-clause-within c =
    (label-bounds c.args.set.now.n c.args.label.now c.as_slice-position-items.result.now c.loop-position.position-index c.requires.label (c.as_slice-position-items.ensures ∙ c.in_ok-positions.ensures) c.loop-position-test.true).1

pub loop-position-preserved : goal.loop-position-preserved
loop-position-preserved c =
    let items = c.as_slice-position-items.result.now in
    let bounds = label-bounds c.args.set.now.n c.args.label.now items c.loop-position.position-index c.requires.label (c.as_slice-position-items.ensures ∙ c.in_ok-positions.ensures) c.loop-position-test.true in (
      put-over c.args.set.now items c.loop-position.position-index c.in_ok-child.child c.loop-position.next.keys c.insert.new.self.keys c.requires.set c.loop-position-test.true bounds.0 bounds.1 c.in_ok-child.ensures c.in_ok-insert.ensures.keys c.loop-position.invariant.0,
      put-sets c.args.set.now items c.loop-position.position-index c.in_ok-child.child c.loop-position.next.keys c.insert.new.self.keys c.requires.set c.loop-position-test.true bounds.0 bounds.1 c.in_ok-child.ensures c.in_ok-insert.ensures.keys c.loop-position.invariant.0
          ∙ c.loop-position.invariant.1,
    )
