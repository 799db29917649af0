use Rattle.feature_tree.proofs.NumberedLaws.{numbered-names, numbered-truth}
use Rattle.feature_tree.proofs.numbered.numbered_keeps_truth.Goals as goal

pub returns-clause-names : goal.returns-clause-names
returns-clause-names c = numbered-names

pub returns-clause-truth : goal.returns-clause-truth
returns-clause-truth c = numbered-truth
