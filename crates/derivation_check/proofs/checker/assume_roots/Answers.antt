use Rattle.std.proofs.Common.{◌≡◌, ◌∙◌, sym, ap, subst, ◌<◌, ◌+◌, ℕ, true, false, length, arith}
use Rattle.std.specs.Prelude.{Some, slice_get}
use Rattle.req_keys.specs.Positions.{has}
use Rattle.clauses.specs.Closure.{clash}
use Rattle.clauses.specs.Problem.{ClauseProblem}
use Rattle.propagation.specs.Propagation.{Propagation, propagated}
use Rattle.propagation.proofs.RootLaws.{AreAssumed, root-below, clash-from_not, no_clash-from_not}
use Rattle.derivation_check.specs.inside.Assumed.{AreAssumedFor}
use Rattle.propagation.specs.inside.RootTrials.{members_to}
use Rattle.propagation.proofs.RootSteps.{members-skip}
use Rattle.derivation_check.proofs.CheckerLaws.{fresh-checked, rooted-checked, assumed-few, assumed-more, counted-more, clashed-checked}
use Rattle.derivation_check.proofs.checker.assume_roots.Goals as goal
use Rattle.derivation_check.proofs.checker.assume_roots.Goals.{then-contains+else-not-assume, else-contains}

pub returns-then-clashes : goal.returns-then-clashes
returns-then-clashes c =
    fresh-checked c.args.problem.now c.args.key.now c.n.ensures.key c.requires.key c.args.propagator.now c.requires.problem c.requires.assumed c.requires.learned
    (sym c.clashes.ensures ∙ c.if-clashes.true)

pub overflow_add-count : goal.overflow_add-count
overflow_add-count c =
    let inside : c.loop-place.place < c.args.key.now.n = omega (arith, c.n-place-end.ensures.n, c.requires.key, c.loop-place-test.true) in
    let few = assumed-few c.args.problem.now c.args.key.now c.n.ensures.key c.requires.key c.loop-place.propagator c.loop-place.place inside c.loop-place.invariant.1 in
    let count = c.loop-place.invariant.0 in
    omega arith

pub assume-requires-clause-variable : goal.assume-requires-clause-variable
assume-requires-clause-variable c =
    subst (λ (at : Propagation). c.get.result.now.var < at.problem.variables) (sym c.loop-place.invariant.1.is)
    (root-below c.args.problem.now c.n-2.ensures.problem c.loop-place.place c.get.result.now
    (subst (λ (p : ClauseProblem). slice_get p.roots c.loop-place.place ≡ Some c.get.result.now) c.problem.view_is c.get.ensures))

pub assume-requires-clause-few : goal.assume-requires-clause-few
assume-requires-clause-few c =
    let inside : c.loop-place.place < c.args.key.now.n = omega (arith, c.n-place-end.ensures.n, c.requires.key, c.loop-place-test.true) in
    let few = assumed-few c.args.problem.now c.args.key.now c.n.ensures.key c.requires.key c.loop-place.propagator c.loop-place.place inside c.loop-place.invariant.1 in
    let is = ap (λ (p : Propagation). p.problem.variables) c.loop-place.invariant.1.is in
    let some = root-below c.args.problem.now c.n-2.ensures.problem c.loop-place.place c.get.result.now
    (subst (λ (p : ClauseProblem). slice_get p.roots c.loop-place.place ≡ Some c.get.result.now) c.problem.view_is c.get.ensures) in
    omega arith

pub returns-then-not-assume : goal.returns-then-not-assume
returns-then-not-assume c =
    let inside : c.loop-place.place < c.args.key.now.n = omega (arith, c.n-place-end.ensures.n, c.requires.key, c.loop-place-test.true) in
    subst (λ (count : ℕ). AreAssumedFor c.args.problem.now c.args.key.now (count + 1) c.assume.new.self) (sym c.loop-place.invariant.0)
    (clashed-checked c.args.problem.now c.args.key.now c.n.ensures.key c.requires.key c.loop-place.propagator c.loop-place.place inside c.loop-place.invariant.1
    (sym c.contains.ensures ∙ c.if-contains.true) c.get.result.now
    (subst (λ (p : ClauseProblem). slice_get p.roots c.loop-place.place ≡ Some c.get.result.now) c.problem.view_is c.get.ensures)
    c.assume.new.self c.assume.ensures.assumed
    (clash-from_not (clash (propagated c.assume.new.self)) c.assume.result c.assume.ensures.no_clash c.if-not-assume.true))

pub loop-place-preserved : goal.loop-place-preserved
loop-place-preserved c =
    let inside : c.loop-place.place < c.args.key.now.n = omega (arith, c.n-place-end.ensures.n, c.requires.key, c.loop-place-test.true) in
    elim c.if-contains.branch [
      | then-contains+else-not-assume w ↦
          let at_place = subst (λ (p : ClauseProblem). slice_get p.roots c.loop-place.place ≡ Some w.get.result.now) c.problem.view_is w.get.ensures in
          let member : has c.args.key.now.members (c.loop-place.place + 1) ≡ true = sym c.contains.ensures ∙ w.if-contains.true in (
            w.count-is
                ∙ ap (λ n. n + 1) c.loop-place.invariant.0
                ∙ sym (counted-more c.args.problem.now c.args.key.now c.n.ensures.key c.requires.key c.loop-place.propagator c.loop-place.place inside c.loop-place.invariant.1 member w.get.result.now at_place w.assume.new.self w.assume.ensures.assumed)
                ∙ ap (λ (p : Propagation). length p.assumed) (sym w.propagator-is),
            subst (λ (p : Propagation). AreAssumed c.args.problem.now p (members_to c.args.key.now (c.loop-place.place + 1))) (sym w.propagator-is)
                (assumed-more c.args.problem.now c.args.key.now c.n.ensures.key c.requires.key c.loop-place.propagator c.loop-place.place inside c.loop-place.invariant.1 member w.get.result.now at_place w.assume.new.self w.assume.ensures.assumed
                (no_clash-from_not (clash (propagated w.assume.new.self)) w.assume.result w.assume.ensures.no_clash w.if-not-assume.false)),
          )
      | else-contains w ↦
          let none : has c.args.key.now.members (c.loop-place.place + 1) ≡ false = sym c.contains.ensures ∙ w.if-contains.false in (
            w.count-is ∙ c.loop-place.invariant.0 ∙ ap (λ (p : Propagation). length p.assumed) (sym w.propagator-is),
            subst (λ (p : Propagation). AreAssumed c.args.problem.now p (members_to c.args.key.now (c.loop-place.place + 1))) (sym w.propagator-is)
                (subst (AreAssumed c.args.problem.now c.loop-place.propagator) (sym (members-skip c.args.key.now c.loop-place.place none)) c.loop-place.invariant.1),
          )
    ]

pub returns : goal.returns
returns c =
    let whole : c.loop-place.place ≡ c.args.key.now.n = omega (arith, c.n-place-end.ensures.n, c.requires.key, c.loop-place-test.false, c.loop-place.auto.place-end) in
    rooted-checked c.args.problem.now c.args.key.now c.n.ensures.key c.requires.key c.loop-place.count c.loop-place.propagator
    (subst (λ n. AreAssumed c.args.problem.now c.loop-place.propagator (members_to c.args.key.now n)) whole c.loop-place.invariant.1)
    c.loop-place.invariant.0
