use Rattle.req_keys.specs.Wanting.{key_over}
use Rattle.std.proofs.Common.{length}
use Rattle.clauses.proofs.MetLaws.{met-within}
use Rattle.clauses.proofs.met.fewer_requirements_are_met.Goals as goal

pub returns-clause-keys : goal.returns-clause-keys
returns-clause-keys c = met-within

pub returns-clause-passes : goal.returns-clause-passes
returns-clause-passes c = λ problem a b. met-within problem (key_over (length problem.roots) a) (key_over (length problem.roots) b)
