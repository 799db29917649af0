use Rattle.req_keys.proofs.OrderLaws.{equal_is_one, one_is_equal}
use Rattle.req_keys.proofs.laws.equal_keys_are_one.Goals as goal

pub returns-clause-cmp : goal.returns-clause-cmp
returns-clause-cmp c = λ a b. (equal_is_one a b, one_is_equal a b)
