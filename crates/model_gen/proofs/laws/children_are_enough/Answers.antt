use Rattle.model_gen.proofs.TreeLaws.{tree-enough, tree-children}
use Rattle.model_gen.proofs.laws.children_are_enough.Goals as goal

pub returns-clause-enough : goal.returns-clause-enough
returns-clause-enough c = tree-enough

pub returns-clause-children : goal.returns-clause-children
returns-clause-children c = tree-children
