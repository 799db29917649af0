use Rattle.std.proofs.Common.{reverse}
use Rattle.pref_sets.specs.Trimmed.{without_item}
use Rattle.pref_sets.proofs.GreedyLaws.{IsGreedy-greedy_of}
use Rattle.pref_sets.proofs.laws.trimmed_set_of_a_test.Goals as goal

pub returns : goal.returns
returns c = λ test items. IsGreedy-greedy_of test without_item (reverse items) items
