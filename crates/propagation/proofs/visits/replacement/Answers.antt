use Rattle.std.proofs.Common.{◌∙◌, sym, subst, inl, inr, arith}
use Rattle.std.specs.Prelude.{Contains}
use Rattle.clauses.specs.declared.literal.Lit.{Lit}
use Rattle.clauses.specs.Clause.{negation}
use Rattle.clauses.proofs.Literals.{from_has}
use Rattle.propagation.proofs.CodeLaws.{item-there}
use Rattle.propagation.proofs.VisitLaws.{none-next, none-all}
use Rattle.propagation.proofs.visits.replacement.Goals as goal
use Rattle.propagation.proofs.visits.replacement.Goals.{then-is_same-via-then-is_same, then-is_same-via-else-is_same+then-is_false}

pub loop-literal-preserved : goal.loop-literal-preserved
loop-literal-preserved c =
    let set = c.args.trail.now.literals in
    let item = c.literal-item.result in
    let is = item-there c.args.clause.now c.loop-literal.literal-index c.literal-item.result c.literal-item.is c.loop-literal-test.true in
    none-next set c.args.clause.now c.args.other c.loop-literal.literal-index c.loop-literal-test.true c.loop-literal.invariant
    (elim c.then-is_same.branch [
      | then-is_same-via-then-is_same w ↦ inl (sym is ∙ c.is_same.ensures.0 w.if-is_same.true)
      | then-is_same-via-else-is_same+then-is_false w ↦ inr (subst (λ (l : Lit). Contains set (negation l)) is (from_has set (negation item) (sym w.is_false.ensures ∙ w.if-is_false.true)))
    ])

pub returns : goal.returns
returns c = none-all c.args.trail.now.literals c.args.clause.now c.args.other c.loop-literal.literal-index (let end = c.loop-literal-test.false in omega arith) c.loop-literal.invariant
