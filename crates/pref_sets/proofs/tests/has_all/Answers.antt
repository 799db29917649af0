use Rattle.std.proofs.Common.{◌≡◌, length, take, ◌∙◌, ap, sym, refl, arith}
use Rattle.std.specs.Prelude.{Contains}
use Rattle.std.proofs.lemmas.Bool.{false≢true}
use Rattle.std.proofs.lemmas.List.Elements.{All-more, All-same}
use Rattle.std.proofs.Math.Seq.{take-length}
use Rattle.pref_sets.proofs.TestLists.{none-from_any, contains-from_any}
use Rattle.pref_sets.proofs.tests.has_all.Goals as goal

pub returns-then-not-contains : goal.returns-then-not-contains
returns-then-not-contains c = (
  λ t. absurd (false≢true t),
  λ all. absurd (none-from_any c.args.set.now _ (sym c.contains.ensures.value ∙ c.if-not-contains.true) (all c.loop-item.item-index 0 c.loop-item-test.true)),
)

pub loop-item-preserved : goal.loop-item-preserved
loop-item-preserved c =
    All-more (Contains c.args.set.now) c.args.needed.now c.loop-item.item-index 0 c.loop-item-test.true c.loop-item.invariant
    (contains-from_any c.args.set.now _ (sym c.contains.ensures.value ∙ c.if-not-contains.false))

pub returns : goal.returns
returns c =
    let whole : c.loop-item.item-index ≡ length c.args.needed.now = omega arith in (
      λ _. All-same (Contains c.args.set.now) c.args.needed.now (take c.loop-item.item-index c.args.needed.now)
          (sym (ap (λ k. take k c.args.needed.now) whole ∙ take-length c.args.needed.now)) c.loop-item.invariant,
      λ _. refl,
    )
