use Rattle.std.proofs.Common.{◌≡◌, ◌∙◌, sym, ap, subst, ◌+◌, true, false, List, [], ◌∷◌, ◌++◌, length, take, drop, Some, arith}
use Rattle.std.proofs.lemmas.List.{take_all}
use Rattle.clauses.specs.declared.literal.Lit.{Lit}
use Rattle.clauses.specs.Closure.{follows, AreDerived}
use Rattle.clauses.specs.Problem.{clauses_with}
use Rattle.propagation.specs.Propagation.{propagated}
use Rattle.propagation.specs.Roots.{IsRooted}
use Rattle.derivation_check.specs.Checking.{first_wrong}
use Rattle.derivation_check.proofs.CheckLaws.{none-wrong}
use Rattle.derivation_check.proofs.LineLaws.{AreChecked, checked-next, checked-wrong, clash-derives, split-at, take-next, take-count}
use Rattle.derivation_check.proofs.checking.first_wrong.Goals as goal

pub returns-in_default : goal.returns-in_default
returns-in_default c =
    sym
    (none-wrong (clauses_with c.args.problem.now c.args.key.now) c.args.lines.now
    (clash-derives (clauses_with c.args.problem.now c.args.key.now) c.args.lines.now (subst (IsRooted c.args.problem.now c.args.key.now) c.in_default.is c.in_ok-propagator.ensures)))

pub returns-then-not-branch : goal.returns-then-not-branch
returns-then-not-branch c =
    let clauses = clauses_with c.args.problem.now c.args.key.now in
    let lines = c.args.lines.now in
    let number = c.loop-number.number in
    sym
    (ap (first_wrong clauses) (split-at c.as_slice-line-items.result.now lines c.as_slice-line-items.ensures number c.loop-number-test.true c.line-item.result c.line-item.is)
    ∙ checked-wrong c.args.problem.now c.args.key.now c.loop-number.propagator (take number lines) c.loop-number.invariant c.line-item.result (drop (number + 1) lines)
    (subst (λ line. follows (propagated c.loop-number.propagator) line ≡ false) c.as_slice.ensures (sym c.in_ok-accepts.ensures.follows ∙ c.if-not-branch.true))
    ∙ ap Some (take-count c.as_slice-line-items.result.now lines c.as_slice-line-items.ensures number c.loop-number-test.true c.line-item.result c.line-item.is))

pub loop-number-preserved : goal.loop-number-preserved
loop-number-preserved c =
    let lines = c.args.lines.now in
    let number = c.loop-number.number in
    subst (AreChecked c.args.problem.now c.args.key.now c.accepts.new.propagator)
    (sym (take-next c.as_slice-line-items.result.now lines c.as_slice-line-items.ensures number c.loop-number-test.true c.line-item.result c.line-item.is))
    (checked-next c.args.problem.now c.args.key.now c.loop-number.propagator (take number lines) c.loop-number.invariant c.line-item.result c.accepts.new.propagator
    (subst (λ line. follows (propagated c.loop-number.propagator) line ≡ true) c.as_slice.ensures (sym c.in_ok-accepts.ensures.follows ∙ c.if-not-branch.false))
    (subst (λ (line : List Lit). c.accepts.new.propagator ≡ record c.loop-number.propagator { learned = c.loop-number.propagator.learned ++ line ∷ [] }) c.as_slice.ensures
    (c.in_ok-accepts.ensures.learned c.if-not-branch.false)))

pub returns : goal.returns
returns c =
    let clauses = clauses_with c.args.problem.now c.args.key.now in
    let size = ap length c.as_slice-line-items.ensures in
    sym
    (none-wrong clauses c.args.lines.now
    (subst (AreDerived clauses) (take_all c.loop-number.number c.args.lines.now (let end = c.loop-number-test.false in omega arith)) c.loop-number.invariant.derived))
