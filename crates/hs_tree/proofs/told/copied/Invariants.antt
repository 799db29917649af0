use Rattle.std.proofs.Common.{◌≡◌, take}
use Rattle.hs_tree.proofs.told.copied.Given as goal

abbrev pub invariant-loop-answer : goal.invariant-loop-answer
invariant-loop-answer l = l.copy ≡ take l.answer-index l.answer-items
