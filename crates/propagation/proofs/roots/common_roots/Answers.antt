use Rattle.std.proofs.Common.{◌≡◌, ◌∙◌, sym, subst, arith}
use Rattle.std.specs.Prelude.{Some, slice_get}
use Rattle.clauses.specs.Problem.{ClauseProblem}
use Rattle.propagation.specs.inside.RootTrials.{IsAt, IsCommon}
use Rattle.propagation.proofs.RootSteps.{common-next, common-none, common-skip, members-few}
use Rattle.propagation.proofs.roots.common_roots.Goals as goal

pub loop-place-init : goal.loop-place-init
loop-place-init c = common-none c.args.propagator.now.problem c.args.key.now c.args.propagator.now.assumed

pub loop-place-preserved-then-not-contains : goal.loop-place-preserved-then-not-contains
loop-place-preserved-then-not-contains c =
    common-skip c.args.propagator.now.problem c.args.key.now c.args.propagator.now.assumed c.loop-place.place c.loop-place.count c.loop-place.invariant
    (omega (arith, c.n-place-end.ensures.n, c.loop-place-test.true)) (sym c.contains.ensures ∙ c.if-not-contains.true)

pub returns-then-not-is_at : goal.returns-then-not-is_at
returns-then-not-is_at c = c.loop-place.invariant

pub overflow_add-count : goal.overflow_add-count
overflow_add-count c =
    let is = c.loop-place.invariant in
    let few = members-few c.args.key.now c.n.ensures.key c.loop-place.place is.within in
    let count = is.counted in
    omega arith

pub loop-place-preserved : goal.loop-place-preserved
loop-place-preserved c =
    let at : slice_get c.args.propagator.now.problem.roots c.loop-place.place ≡ Some c.get.result.now =
    subst (λ (p : ClauseProblem). slice_get p.roots c.loop-place.place ≡ Some c.get.result.now) (c.problem.view_is ∙ c.problem-problem.ensures.problem) c.get.ensures in
    let there : slice_get c.args.propagator.now.assumed c.loop-place.count ≡ Some c.get.result.now =
    subst (λ ls. slice_get ls c.loop-place.count ≡ Some c.get.result.now) c.assumed-assumed.ensures (subst (IsAt c.assumed-assumed.result.now c.loop-place.count c.get.result.now) c.if-not-is_at.false c.is_at.ensures) in
    common-next c.args.propagator.now.problem c.args.key.now c.args.propagator.now.assumed c.loop-place.place c.loop-place.count c.loop-place.invariant
    (omega (arith, c.n-place-end.ensures.n, c.loop-place-test.true)) (sym c.contains.ensures ∙ c.if-not-contains.false) c.get.result.now at there

pub returns : goal.returns
returns c =
    let whole : c.n-3.result ≡ c.loop-place.place = omega (arith, c.n-3.ensures.n, c.n-place-end.ensures.n, c.loop-place-test.false, c.loop-place.auto.place-end) in
    subst (λ n. IsCommon c.args.propagator.now.problem c.args.key.now c.args.propagator.now.assumed (record { place = n; count = c.loop-place.count })) (sym whole) c.loop-place.invariant
