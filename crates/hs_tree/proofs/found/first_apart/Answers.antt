use Rattle.std.proofs.Common.{sym, ◌∙◌}
use Rattle.hs_tree.proofs.FoundLists.{label-at, label-behind}
use Rattle.hs_tree.proofs.found.first_apart.Goals as goal

pub is_disjoint-requires : goal.is_disjoint-requires
is_disjoint-requires c = (c.requires c.index-conflicts-place.result (c.loop-place.place, c.loop-place-test.true, sym c.index-conflicts-place.is)).number

pub returns-then-is_disjoint : goal.returns-then-is_disjoint
returns-then-is_disjoint c = (
  c.loop-place-test.true,
  label-at c.args.conflicts.now c.args.set.now.members c.loop-place.place c.index-conflicts-place.result c.loop-place-test.true c.index-conflicts-place.is c.loop-place.invariant (sym c.is_disjoint.ensures ∙ c.if-is_disjoint.true),
)

pub loop-place-preserved : goal.loop-place-preserved
loop-place-preserved c =
    label-behind c.args.conflicts.now c.args.set.now.members c.loop-place.place c.index-conflicts-place.result c.loop-place-test.true c.index-conflicts-place.is c.loop-place.invariant (sym c.is_disjoint.ensures ∙ c.if-is_disjoint.false)
