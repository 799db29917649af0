use Rattle.std.proofs.Common.{◌∙◌, refl, sym, ap, length, [], ◌∷◌, ◌++◌, append_assoc, take, arith}
use Rattle.std.proofs.lemmas.List.{append-nil, length-append, length-take, take_all}
use Rattle.propagation.proofs.FlatLaws.{take-one}
use Rattle.propagation.proofs.flat.append.Goals as goal

pub loop-literal-init : goal.loop-literal-init
loop-literal-init c = record { items = sym (append-nil c.args.row.now.items); room = refl }

pub push_reserved-requires : goal.push_reserved-requires
push_reserved-requires c =
    let items = ap length c.loop-literal.invariant.items in
    let sum = length-append c.args.row.now.items (take c.loop-literal.literal-index c.args.clause.now) in
    let part = length-take c.loop-literal.literal-index c.args.clause.now in
    let room = c.loop-literal.invariant.room in
    let all = c.requires.room in
    omega arith

pub loop-literal-preserved : goal.loop-literal-preserved
loop-literal-preserved c =
    let row = c.args.row.now.items in
    let clause = c.args.clause.now in
    let i = c.loop-literal.literal-index in
    record {
      items =
          c.push_reserved.ensures.items
          ∙ ap (λ ls. ls ++ c.of.result ∷ []) c.loop-literal.invariant.items
          ∙ append_assoc row (take i clause) (c.of.result ∷ [])
          ∙ ap (λ ls. row ++ ls) (take-one clause i c.of.result c.of.ensures c.loop-literal-test.true);
      room = c.push_reserved.ensures.capacity ∙ c.loop-literal.invariant.room;
    }

pub returns-clause-items : goal.returns-clause-items
returns-clause-items c =
    c.loop-literal.invariant.items
    ∙ ap (λ ls. c.args.row.now.items ++ ls) (take_all c.loop-literal.literal-index c.args.clause.now (let end = c.loop-literal-test.false in omega arith))
