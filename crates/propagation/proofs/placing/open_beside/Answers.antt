use Rattle.std.proofs.Common.{◌≡◌, ◌∙◌, ◌⊎◌, sym, ap, subst, inl, inr, Some, arith, take}
use Rattle.std.specs.Prelude.{Contains}
use Rattle.clauses.specs.declared.literal.Lit.{Lit}
use Rattle.clauses.specs.Clause.{negation}
use Rattle.clauses.proofs.Literals.{from_has}
use Rattle.propagation.proofs.CodeLaws.{item-there}
use Rattle.propagation.proofs.VisitLaws.{each-next, each-all}
use Rattle.propagation.proofs.placing.open_beside.Goals as goal
use Rattle.propagation.proofs.placing.open_beside.Goals.{then-is_the_one-via-then-is_the_one, then-is_the_one-via-else-is_the_one+then-was_false}

pub loop-literal-preserved : goal.loop-literal-preserved
loop-literal-preserved c =
    let set = take c.args.end c.args.trail.now.literals in
    let item = c.literal-item.result in
    let is = item-there c.args.clause.now c.loop-literal.literal-index c.literal-item.result c.literal-item.is c.loop-literal-test.true in
    each-next (λ (l : Lit). (c.args.but ≡ Some l) ⊎ Contains set (negation l)) c.args.clause.now c.loop-literal.literal-index c.loop-literal-test.true c.loop-literal.invariant
    (elim c.then-is_the_one.branch [
      | then-is_the_one-via-then-is_the_one w ↦ inl (c.is_the_one.ensures.0 w.if-is_the_one.true ∙ ap Some is)
      | then-is_the_one-via-else-is_the_one+then-was_false w ↦ inr (subst (λ (l : Lit). Contains set (negation l)) is (from_has set (negation item) (sym w.was_false.ensures ∙ w.if-was_false.true)))
    ])

pub returns : goal.returns
returns c =
    let set = take c.args.end c.args.trail.now.literals in
    each-all (λ (l : Lit). (c.args.but ≡ Some l) ⊎ Contains set (negation l)) c.args.clause.now c.loop-literal.literal-index (let end = c.loop-literal-test.false in omega arith) c.loop-literal.invariant
