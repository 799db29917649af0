use Rattle.std.proofs.Common.{◌∙◌, ap, sym, subst, false, take, get_or, ◌∷◌, [], ◌++◌, arith}
use Rattle.std.specs.Prelude.{Contains}
use Rattle.std.proofs.lemmas.List.{take_all, take_more}
use Rattle.clauses.specs.declared.literal.Lit.{Lit}
use Rattle.clauses.specs.Clause.{unit_of}
use Rattle.clauses.specs.Closure.{closure, clash}
use Rattle.clauses.specs.Problem.{IsBelow}
use Rattle.propagation.specs.Propagation.{propagated}
use Rattle.propagation.specs.Room.{IsMadeTrue}
use Rattle.derivation_check.proofs.NegationLaws.{IsFalsified, negations, clash-append, falsified-none, falsified-next, falsified-all, behind-next, next-clash, first-within, room, variable}
use Rattle.derivation_check.proofs.negations.follows.Goals as goal

abbrev nowhere : Lit
nowhere = record { var = 0; positive = false }

pub returns-then-clashes-clause-follows : goal.returns-then-clashes-clause-follows
returns-then-clashes-clause-follows c = sym (clash-append (propagated c.args.propagator.now) (negations c.args.line.now) (sym c.clashes.ensures ∙ c.if-clashes.true))

pub loop-literal-init : goal.loop-literal-init
loop-literal-init c = falsified-none c.args.propagator.now (sym c.clashes.ensures ∙ c.if-clashes.false)

pub make_true-requires : goal.make_true-requires
make_true-requires c =
    let old = c.loop-literal.propagator in
    let so_far = take c.loop-literal.literal-index c.args.line.now in
    let literal = get_or c.args.line.now c.loop-literal.literal-index nowhere in
    record {
      no_clash = c.loop-literal.invariant.no_clash;
      variable = subst (IsBelow old.problem.variables) (sym c.negated.ensures) (variable c.args.propagator.now old so_far c.loop-literal.invariant literal (c.requires.variables c.loop-literal.literal-index nowhere c.loop-literal-test.true));
      room = room c.args.propagator.now old so_far c.loop-literal.invariant literal c.requires.few;
    }

pub returns-then-not-make_true-clause-follows : goal.returns-then-not-make_true-clause-follows
returns-then-not-make_true-clause-follows c =
    sym
    (next-clash c.args.propagator.now c.loop-literal.propagator (take c.loop-literal.literal-index c.args.line.now) c.loop-literal.invariant
    (get_or c.args.line.now c.loop-literal.literal-index nowhere)
    c.args.line.now
    (first-within c.args.line.now c.loop-literal.literal-index c.loop-literal-test.true nowhere)
    (ap (λ (l : Lit). clash (propagated c.loop-literal.propagator ++ unit_of l ∷ [])) (sym c.negated.ensures) ∙ c.make_true.ensures.clash c.if-not-make_true.true))

pub returns-then-not-make_true-clause-behind : goal.returns-then-not-make_true-clause-behind
returns-then-not-make_true-clause-behind c =
    behind-next c.args.propagator.now c.loop-literal.propagator (take c.loop-literal.literal-index c.args.line.now) c.loop-literal.invariant
    (get_or c.args.line.now c.loop-literal.literal-index nowhere)
    c.make_true.new.self (subst (λ (l : Lit). IsMadeTrue c.loop-literal.propagator l c.make_true.new.self) c.negated.ensures c.make_true.ensures.assumed)

pub loop-literal-preserved : goal.loop-literal-preserved
loop-literal-preserved c =
    subst (IsFalsified c.args.propagator.now c.make_true.new.self) (sym (take_more c.args.line.now c.loop-literal.literal-index nowhere c.loop-literal-test.true))
    (falsified-next c.args.propagator.now c.loop-literal.propagator (take c.loop-literal.literal-index c.args.line.now) c.loop-literal.invariant
    (get_or c.args.line.now c.loop-literal.literal-index nowhere)
    c.make_true.new.self
    (subst (λ (l : Lit). IsMadeTrue c.loop-literal.propagator l c.make_true.new.self) c.negated.ensures c.make_true.ensures.assumed)
    c.make_true.ensures.distinct
    (subst (λ (l : Lit). Contains (closure (propagated c.make_true.new.self)) l) c.negated.ensures (c.make_true.ensures.closed c.if-not-make_true.false))
    (c.make_true.ensures.no_clash c.if-not-make_true.false))

pub returns-clause-follows : goal.returns-clause-follows
returns-clause-follows c =
    sym
    (falsified-all c.args.propagator.now c.loop-literal.propagator c.args.line.now
    (subst (IsFalsified c.args.propagator.now c.loop-literal.propagator) (take_all c.loop-literal.literal-index c.args.line.now (let end = c.loop-literal-test.false in omega arith)) c.loop-literal.invariant))
