use Rattle.std.proofs.Common.{◌∙◌, sym, subst, arith, take}
use Rattle.std.specs.Prelude.{Contains}
use Rattle.std.proofs.lemmas.Bool.{false≢true}
use Rattle.std.proofs.lemmas.List.Elements.{Contains-get_or}
use Rattle.clauses.specs.declared.literal.Lit.{Lit}
use Rattle.clauses.specs.Clause.{negation, negative_of}
use Rattle.clauses.proofs.Literals.{from_has, has-from}
use Rattle.propagation.proofs.CodeLaws.{item-there}
use Rattle.propagation.proofs.VisitLaws.{each-next, each-all}
use Rattle.propagation.proofs.placing.late_in.Goals as goal
use Rattle.propagation.proofs.placing.late_in.Goals.{then-not-was_false-via-then-not-was_false, then-not-was_false-via-else-not-was_false+then-was_false}

pub loop-literal-preserved : goal.loop-literal-preserved
loop-literal-preserved c =
    let set = take c.args.end c.args.trail.now.literals in
    let before = take c.args.start c.args.trail.now.literals in
    let item = c.literal-item.result in
    let is = item-there c.args.clause.now c.loop-literal.literal-index c.literal-item.result c.literal-item.is c.loop-literal-test.true in
    each-next (λ (l : Lit). Contains set (negation l) → Contains before (negation l)) c.args.clause.now c.loop-literal.literal-index c.loop-literal-test.true c.loop-literal.invariant
    (elim c.then-not-was_false.branch [
      | then-not-was_false-via-then-not-was_false w ↦ λ m. absurd (false≢true (sym w.if-not-was_false.true ∙ c.was_false.ensures ∙ has-from set (negation item) (subst (λ (l : Lit). Contains set (negation l)) (sym is) m)))
      | then-not-was_false-via-else-not-was_false+then-was_false w ↦ λ m. subst (λ (l : Lit). Contains before (negation l)) is (from_has before (negation item) (sym w.was_false-else-not-was_false.ensures ∙ w.if-was_false.true))
    ])

pub returns-in-loop-literal : goal.returns-in-loop-literal
returns-in-loop-literal c =
    let set = take c.args.end c.args.trail.now.literals in
    let item = c.literal-item.result in
    let is = item-there c.args.clause.now c.loop-literal.literal-index c.literal-item.result c.literal-item.is c.loop-literal-test.true in (
      subst (Contains c.args.clause.now) (sym is) (Contains-get_or c.args.clause.now c.loop-literal.literal-index (negative_of 0) c.loop-literal-test.true),
      from_has set (negation item) (sym c.was_false.ensures ∙ c.if-not-was_false.false),
      sym c.was_false-else-not-was_false.ensures ∙ c.if-was_false.false,
    )

pub returns : goal.returns
returns c =
    let set = take c.args.end c.args.trail.now.literals in
    let before = take c.args.start c.args.trail.now.literals in
    each-all (λ (l : Lit). Contains set (negation l) → Contains before (negation l)) c.args.clause.now c.loop-literal.literal-index (let end = c.loop-literal-test.false in omega arith) c.loop-literal.invariant
