use Rattle.clauses.proofs.ClosureLaws.{follows-satisfied}
use Rattle.clauses.proofs.laws.what_follows_is_true.Goals as goal

pub returns : goal.returns
returns c = λ clauses clause follows values holds. follows-satisfied values clauses clause holds follows
