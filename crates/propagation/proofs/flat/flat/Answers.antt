use Rattle.std.proofs.Common.{◌∙◌, ap, [], ◌∷◌, ◌++◌, take, arith}
use Rattle.std.proofs.lemmas.List.{take_all}
use Rattle.propagation.proofs.FlatLaws.{take-next}
use Rattle.propagation.proofs.flat.flat.Goals as goal

pub loop-clause-init : goal.loop-clause-init
loop-clause-init c = c.new-flat.ensures

pub loop-clause-preserved : goal.loop-clause-preserved
loop-clause-preserved c =
    let clauses = c.args.clauses.now in
    let i = c.loop-clause.clause-index in
    c.in_ok-push.ensures.ok
    ∙ ap (λ cs. cs ++ c.as_slice.result.now ∷ []) c.loop-clause.invariant
    ∙ ap (λ k. take i clauses ++ k ∷ []) c.as_slice.ensures
    ∙ take-next clauses i c.clause-item.result c.clause-item.is c.loop-clause-test.true

pub returns : goal.returns
returns c = c.loop-clause.invariant ∙ take_all c.loop-clause.clause-index c.args.clauses.now (let end = c.loop-clause-test.false in omega arith)
