use Rattle.std.proofs.Common.{◌+◌, ◌∙◌, ◌++◌, ◌∷◌, [], ap, sym, arith}
use Rattle.std.specs.List.{range_with_len}
use Rattle.pref_sets.proofs.TestLists.{IsDistinct-range}
use Rattle.lists.proofs.Ranges.{range_with_len-push}
use Rattle.pref_sets.proofs.tests.numbers_to.Goals as goal

pub loop-i-preserved : goal.loop-i-preserved
loop-i-preserved c =
    c.in_ok-push.ensures.items ∙ ap (λ t. t ++ (c.loop-i.i + 1) ∷ []) c.loop-i.invariant
    ∙ ap (λ k. range_with_len 1 c.loop-i.i ++ k ∷ []) (omega arith) ∙ sym (range_with_len-push 1 c.loop-i.i)

pub returns : goal.returns
returns c = rw c.loop-i.invariant (IsDistinct-range 1 c.loop-i.i)
