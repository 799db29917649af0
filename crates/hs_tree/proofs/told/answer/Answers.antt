use Rattle.std.proofs.Common.{◌+◌, ap, sym, ◌∙◌, drop, List}
use Rattle.pref_sets.specs.Answers.{answer_to}
use Rattle.hs_tree.specs.declared.told.ToldAnswer.{ToldAnswer}
use Rattle.hs_tree.specs.inside.Told.{answers_of}
use Rattle.hs_tree.proofs.ToldAnswers.{told-other, drop-at, AreToldOver-at}
use Rattle.hs_tree.proofs.told.answer.Goals as goal

pub loop-answer-preserved : goal.loop-answer-preserved
loop-answer-preserved c =
    let items = c.as_slice-answer-items.result.now in
    let i = c.loop-answer.answer-index in
    let parts = drop-at items i c.answer-item.result c.loop-answer-test.true c.answer-item.is in
    let n = AreToldOver-at c.args.key.now.n c.args.told.now items i c.answer-item.result c.requires c.as_slice-answer-items.ensures c.loop-answer-test.true c.answer-item.is in
    sym (told-other c.answer-item.result (drop (i + 1) items) c.args.key.now n (sym c.eq.ensures ∙ c.if-eq.false))
    ∙ ap (λ (t : List ToldAnswer). answer_to (answers_of t) c.args.key.now.members) (sym parts)
    ∙ c.loop-answer.invariant
