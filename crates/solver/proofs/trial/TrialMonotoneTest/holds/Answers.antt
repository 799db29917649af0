use Rattle.std.proofs.Common.{◌∙◌, refl, sym, take, get_or, subst, arith}
use Rattle.std.proofs.lemmas.List.{take_all}
use Rattle.solver.specs.inside.TestLaws.{same-transitive}
use Rattle.solver.proofs.TrialLaws.{IsTried, clash-start, clash-whole, tried-start, tried-next, tried-clash, tried-no_clash, clashes-same, first-within, tried-push-set}
use Rattle.solver.proofs.trial.TrialMonotoneTest.holds.Goals as goal

pub returns-then-clashes_with-clause-answer : goal.returns-then-clashes_with-clause-answer
returns-then-clashes_with-clause-answer c = (
  (λ _. clash-start c.args.self.now (take c.common_with-kept.result c.args.self.now.tried) c.args.set.now c.common_with-kept.ensures.within (sym c.clashes_with.ensures ∙ c.if-clashes_with.true)),
  (λ _. refl),
)

pub returns-then-kept-set-clause-answer : goal.returns-then-kept-set-clause-answer
returns-then-kept-set-clause-answer c = (
  (λ never. absurd (cc)),
  (λ clashes.
      absurd
      (clash-whole c.args.self.now (take c.common_with-kept.result c.args.self.now.tried) c.args.set.now (c.common_with-kept.ensures.whole c.if-kept-set.true)
      (sym c.clashes_with.ensures ∙ c.if-clashes_with.false) clashes)),
)

pub loop-number-init : goal.loop-number-init
loop-number-init c =
    tried-start c.args.self.now c.keep.new.self (take c.common_with-kept.result c.args.self.now.tried) c.args.set.now c.keep.ensures c.common_with-kept.ensures.within
    (sym c.clashes_with.ensures ∙ c.if-clashes_with.false)

pub try_number-requires : goal.try_number-requires
try_number-requires c = c.loop-number.invariant.no_clash

pub returns-then-not-try_number-clause-answer : goal.returns-then-not-try_number-clause-answer
returns-then-not-try_number-clause-answer c = (
  (λ _.
      tried-clash c.args.self.now c.loop-number.self c.try_number.new.self c.args.set.now (take c.loop-number.number-index c.args.set.now) (get_or c.args.set.now c.loop-number.number-index 0)
      (first-within c.args.set.now c.loop-number.number-index c.loop-number-test.true)
      c.loop-number.invariant
      (c.try_number.ensures.clash c.if-not-try_number.true)),
  (λ _. refl),
)

pub returns-then-not-try_number-clause-yes : goal.returns-then-not-try_number-clause-yes
returns-then-not-try_number-clause-yes c =
    clashes-same c.args.self.now c.try_number.new.self (same-transitive c.args.self.now c.loop-number.self c.try_number.new.self c.loop-number.invariant.same c.try_number.ensures.same)

pub returns-then-not-try_number-clause-stays : goal.returns-then-not-try_number-clause-stays
returns-then-not-try_number-clause-stays c = same-transitive c.args.self.now c.loop-number.self c.try_number.new.self c.loop-number.invariant.same c.try_number.ensures.same

pub loop-number-preserved : goal.loop-number-preserved
loop-number-preserved c =
    tried-push-set c.args.set.now c.loop-number.number-index c.loop-number-test.true c.args.self.now c.try_number.new.self
    (tried-next c.args.self.now c.loop-number.self c.try_number.new.self c.args.set.now (take c.loop-number.number-index c.args.set.now) (get_or c.args.set.now c.loop-number.number-index 0)
    (first-within c.args.set.now c.loop-number.number-index c.loop-number-test.true)
    c.loop-number.invariant
    c.try_number.ensures.same c.try_number.ensures.within c.try_number.ensures.more
    (c.try_number.ensures.valued c.if-not-try_number.false)
    (c.try_number.ensures.no_clash c.if-not-try_number.false))

pub returns-clause-answer : goal.returns-clause-answer
returns-clause-answer c = (
  (λ never. absurd (cc)),
  (λ clashes.
      absurd
      (tried-no_clash c.args.self.now c.loop-number.self c.args.set.now
      (subst (IsTried c.args.self.now c.loop-number.self c.args.set.now) (take_all c.loop-number.number-index c.args.set.now (omega arith)) c.loop-number.invariant)
      clashes)),
)

pub returns-clause-yes : goal.returns-clause-yes
returns-clause-yes c = clashes-same c.args.self.now c.loop-number.self c.loop-number.invariant.same

pub returns-clause-stays : goal.returns-clause-stays
returns-clause-stays c = c.loop-number.invariant.same
