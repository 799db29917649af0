use Rattle.std.proofs.Common.{◌≡◌, ◌∙◌, sym, ap, subst, [], ◌∷◌, ◌++◌, get_or, true, arith}
use Rattle.std.specs.Prelude.{Contains}
use Rattle.clauses.specs.declared.literal.Lit.{Lit}
use Rattle.std.proofs.lemmas.List.{take_all}
use Rattle.std.proofs.lemmas.List.Elements.{Contains-get_or}
use Rattle.clauses.specs.Clause.{negation, negative_of}
use Rattle.clauses.proofs.Literals.{from_has}
use Rattle.propagation.specs.inside.Pairing.{IsBrought}
use Rattle.propagation.proofs.CodeLaws.{item-there}
use Rattle.propagation.proofs.PairLaws.{brought-none, brought-there, brought-put, brought-up-to}
use Rattle.propagation.proofs.pairs.bring_row.Goals as goal

pub loop-literal-init : goal.loop-literal-init
loop-literal-init c = brought-none c.args.row.now c.args.trail.now

pub is_true-requires : goal.is_true-requires
is_true-requires c = let low = c.requires c.loop-literal.literal-index (negative_of 0) c.loop-literal-test.true in let is = item-there c.args.row.now c.loop-literal.literal-index c.literal-item.result c.literal-item.is c.loop-literal-test.true in let var = ap (λ (l : Lit). l.var) is in let same = c.loop-literal.invariant.same in omega arith

pub loop-literal-preserved-then-is_true : goal.loop-literal-preserved-then-is_true
loop-literal-preserved-then-is_true c =
    let here = get_or c.args.row.now c.loop-literal.literal-index (negative_of 0) in
    let is = item-there c.args.row.now c.loop-literal.literal-index c.literal-item.result c.literal-item.is c.loop-literal-test.true in
    brought-there c.args.row.now c.args.trail.now c.loop-literal.trail c.loop-literal.literal-index c.loop-literal-test.true c.loop-literal.invariant
    (subst (Contains c.loop-literal.trail.literals) is (from_has c.loop-literal.trail.literals c.literal-item.result (sym c.is_true.ensures.answer ∙ c.if-is_true.true)))

pub is_false-requires : goal.is_false-requires
is_false-requires c = let low = c.requires c.loop-literal.literal-index (negative_of 0) c.loop-literal-test.true in let is = item-there c.args.row.now c.loop-literal.literal-index c.literal-item.result c.literal-item.is c.loop-literal-test.true in let var = ap (λ (l : Lit). l.var) is in let same = c.loop-literal.invariant.same in omega arith

pub returns-then-is_false : goal.returns-then-is_false
returns-then-is_false c =
    let here = get_or c.args.row.now c.loop-literal.literal-index (negative_of 0) in
    let is = item-there c.args.row.now c.loop-literal.literal-index c.literal-item.result c.literal-item.is c.loop-literal-test.true in
    brought-up-to c.args.row.now c.loop-literal.literal-index c.args.trail.now c.loop-literal.trail c.loop-literal.invariant here (Contains-get_or c.args.row.now c.loop-literal.literal-index (negative_of 0) c.loop-literal-test.true)
    (subst (λ l. Contains c.loop-literal.trail.literals (negation l)) is (from_has c.loop-literal.trail.literals (negation c.literal-item.result) (sym c.is_false.ensures ∙ c.if-is_false.true)))

pub put-requires-clause-variable : goal.put-requires-clause-variable
put-requires-clause-variable c = let low = c.requires c.loop-literal.literal-index (negative_of 0) c.loop-literal-test.true in let is = item-there c.args.row.now c.loop-literal.literal-index c.literal-item.result c.literal-item.is c.loop-literal-test.true in let var = ap (λ (l : Lit). l.var) is in let same = c.loop-literal.invariant.same in omega arith

pub loop-literal-preserved : goal.loop-literal-preserved
loop-literal-preserved c =
    let is = item-there c.args.row.now c.loop-literal.literal-index c.literal-item.result c.literal-item.is c.loop-literal-test.true in
    brought-put c.args.row.now c.args.trail.now c.loop-literal.trail c.loop-literal.literal-index c.loop-literal-test.true c.loop-literal.invariant c.put.new.self
    (subst (λ l. c.put.new.self ≡ record c.loop-literal.trail { literals = c.loop-literal.trail.literals ++ l ∷ [] }) is c.put.ensures)

pub returns : goal.returns
returns c = subst (λ row. IsBrought row c.args.trail.now c.loop-literal.trail true) (take_all c.loop-literal.literal-index c.args.row.now (let end = c.loop-literal-test.false in omega arith)) c.loop-literal.invariant
