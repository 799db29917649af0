use Rattle.std.proofs.Common.{◌∙◌, ap, sym, ◌+◌, get_or, false}
use Rattle.std.proofs.lemmas.List.Sums.{count_by_more_yes, count_by_more_no}
use Rattle.std.proofs.lemmas.Option.{unwrap_or-slice_get}
use Rattle.feature_tree.specs.Truth.{is_in}
use Rattle.feature_tree.proofs.group.count_in.Goals as goal
use Rattle.feature_tree.proofs.group.count_in.Goals.{then-in_set-child, else-in_set-child}

pub loop-child-preserved : goal.loop-child-preserved
loop-child-preserved c =
    let read = unwrap_or-slice_get c.args.in_set.now (get_or c.args.children.now c.loop-child.child-index 0) false in
    elim c.if-in_set-child.branch [
      | then-in_set-child w ↦
          w.count-is ∙ ap (λ n. n + 1) c.loop-child.invariant
          ∙ sym (count_by_more_yes (is_in c.args.in_set.now) c.args.children.now c.loop-child.child-index 0 c.loop-child-test.true (read ∙ w.if-in_set-child.true))
      | else-in_set-child w ↦
          w.count-is ∙ c.loop-child.invariant
          ∙ sym (count_by_more_no (is_in c.args.in_set.now) c.args.children.now c.loop-child.child-index 0 c.loop-child-test.true (read ∙ w.if-in_set-child.false))
    ]
