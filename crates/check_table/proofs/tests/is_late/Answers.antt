use Rattle.std.proofs.Common.{ap, ◌∙◌, arith}
use Rattle.check_table.specs.Places.{key_width}
use Rattle.check_table.proofs.Tested.{one_word, read_free}
use Rattle.check_table.proofs.tests.is_late.Goals as goal

pub key_word-word-requires-clause-within : goal.key_word-word-requires-clause-within
key_word-word-requires-clause-within c = let one = ap key_width c.requires.problem ∙ one_word in omega arith

pub answer-left-requires-clause-verdict : goal.answer-left-requires-clause-verdict
answer-left-requires-clause-verdict c = read_free c.args.worker.now.sees c.key_word-word.new.w.sees _ c.key_word-word.result (c.requires.own.problem ∙ c.requires.problem) c.requires.running c.key_word-word.ensures.view c.if-word-eq0.true
