use Rattle.std.proofs.Common.{◌≡◌, drop}
use Rattle.pref_sets.specs.Answers.{answer_to}
use Rattle.hs_tree.specs.inside.Told.{answers_of}
use Rattle.hs_tree.proofs.told.answer.Given as goal

abbrev pub invariant-loop-answer : goal.invariant-loop-answer
invariant-loop-answer l = answer_to (answers_of (drop l.answer-index l.answer-items)) l.key.members ≡ answer_to (answers_of l.answer-items) l.key.members
