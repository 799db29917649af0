use Rattle.std.proofs.Common.{◌≡◌, ◌∙◌, sym, ap, subst, ◌<◌, arith}
use Rattle.std.specs.Prelude.{Some, slice_get}
use Rattle.clauses.specs.Closure.{clash}
use Rattle.clauses.specs.Problem.{ClauseProblem}
use Rattle.propagation.specs.Propagation.{Propagation, propagated}
use Rattle.propagation.specs.inside.RootTrials.{members_to}
use Rattle.propagation.proofs.RootLaws.{AreAssumed, root-below, clash-from_not, no_clash-from_not}
use Rattle.propagation.proofs.RootSteps.{begun-assumed, begun-clash, steps-all, steps-clash, steps-few, steps-next, steps-skip}
use Rattle.propagation.proofs.roots.try_roots.Goals as goal

pub returns-then-clashes : goal.returns-then-clashes
returns-then-clashes c = (
  begun-clash c.args.propagator.now.problem c.args.key.now c.n.ensures.key c.args.from c.args.propagator.now c.requires.begun (sym c.clashes.ensures ∙ c.if-clashes.true),
  ap (λ (at : Propagation). at.problem) c.requires.begun.is,
)

pub loop-place-init : goal.loop-place-init
loop-place-init c = begun-assumed c.args.propagator.now.problem c.args.key.now c.n.ensures.key c.args.from c.args.propagator.now c.requires.begun (sym c.clashes.ensures ∙ c.if-clashes.false)

pub loop-place-preserved-then-not-contains : goal.loop-place-preserved-then-not-contains
loop-place-preserved-then-not-contains c =
    steps-skip c.args.propagator.now.problem c.args.key.now c.n.ensures.key c.loop-place.propagator c.loop-place.place (omega (arith, c.n-place-end.ensures.n, c.loop-place-test.true)) c.loop-place.invariant
    (sym c.contains.ensures ∙ c.if-not-contains.true)

pub assume-requires-clause-no_clash : goal.assume-requires-clause-no_clash
assume-requires-clause-no_clash c = c.loop-place.invariant.no_clash

pub assume-requires-clause-variable : goal.assume-requires-clause-variable
assume-requires-clause-variable c =
    subst (λ (at : Propagation). c.get.result.now.var < at.problem.variables) (sym c.loop-place.invariant.is)
    (root-below c.args.propagator.now.problem c.problem-problem.ensures.lawful c.loop-place.place c.get.result.now
    (subst (λ (p : ClauseProblem). slice_get p.roots c.loop-place.place ≡ Some c.get.result.now) (c.problem.view_is ∙ c.problem-problem.ensures.problem) c.get.ensures))

pub assume-requires-clause-few : goal.assume-requires-clause-few
assume-requires-clause-few c =
    let few = steps-few c.args.propagator.now.problem c.args.key.now c.n.ensures.key c.loop-place.propagator c.loop-place.place (omega (arith, c.n-place-end.ensures.n, c.loop-place-test.true)) c.loop-place.invariant in
    let is = ap (λ (p : Propagation). p.problem.variables) c.loop-place.invariant.is in
    let some = root-below c.args.propagator.now.problem c.problem-problem.ensures.lawful c.loop-place.place c.get.result.now
    (subst (λ (p : ClauseProblem). slice_get p.roots c.loop-place.place ≡ Some c.get.result.now) (c.problem.view_is ∙ c.problem-problem.ensures.problem) c.get.ensures) in
    omega arith

pub returns-then-not-assume : goal.returns-then-not-assume
returns-then-not-assume c = (
  steps-clash c.args.propagator.now.problem c.args.key.now c.n.ensures.key c.loop-place.propagator c.loop-place.place (omega (arith, c.n-place-end.ensures.n, c.loop-place-test.true)) c.loop-place.invariant
      (sym c.contains.ensures ∙ c.if-not-contains.false) c.get.result.now
      (subst (λ (p : ClauseProblem). slice_get p.roots c.loop-place.place ≡ Some c.get.result.now) (c.problem.view_is ∙ c.problem-problem.ensures.problem) c.get.ensures)
      c.assume.new.self c.assume.ensures.assumed
      (clash-from_not (clash (propagated c.assume.new.self)) c.assume.result c.assume.ensures.no_clash c.if-not-assume.true),
  ap (λ (at : Propagation). at.problem) c.assume.ensures.assumed ∙ ap (λ (at : Propagation). at.problem) c.loop-place.invariant.is,
)

pub loop-place-preserved : goal.loop-place-preserved
loop-place-preserved c =
    steps-next c.args.propagator.now.problem c.args.key.now c.n.ensures.key c.loop-place.propagator c.loop-place.place (omega (arith, c.n-place-end.ensures.n, c.loop-place-test.true)) c.loop-place.invariant
    (sym c.contains.ensures ∙ c.if-not-contains.false) c.get.result.now
    (subst (λ (p : ClauseProblem). slice_get p.roots c.loop-place.place ≡ Some c.get.result.now) (c.problem.view_is ∙ c.problem-problem.ensures.problem) c.get.ensures)
    c.assume.new.self c.assume.ensures.assumed
    (no_clash-from_not (clash (propagated c.assume.new.self)) c.assume.result c.assume.ensures.no_clash c.if-not-assume.false)

pub returns : goal.returns
returns c =
    let whole : c.loop-place.place ≡ c.args.key.now.n = omega (arith, c.n-place-end.ensures.n, c.loop-place-test.false, c.loop-place.auto.place-end, c.requires.begun.within) in
    steps-all c.args.propagator.now.problem c.args.key.now c.n.ensures.key c.loop-place.propagator
    (subst (λ n. AreAssumed c.args.propagator.now.problem c.loop-place.propagator (members_to c.args.key.now n)) whole c.loop-place.invariant)
