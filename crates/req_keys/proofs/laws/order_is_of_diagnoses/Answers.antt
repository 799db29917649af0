use Rattle.req_keys.proofs.OrderLaws.{less_is_before, before_is_less}
use Rattle.req_keys.proofs.laws.order_is_of_diagnoses.Goals as goal

pub returns : goal.returns
returns c = λ a b h k. (less_is_before a b h k, before_is_less a b h k)
