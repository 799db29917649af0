use Rattle.std.proofs.Common.{[]}
use Rattle.pref_sets.specs.Kept.{with_item}
use Rattle.pref_sets.proofs.GreedyLaws.{IsGreedy-greedy_of}
use Rattle.pref_sets.proofs.laws.kept_set_of_a_test.Goals as goal

pub returns : goal.returns
returns c = λ test items. IsGreedy-greedy_of test with_item items []
