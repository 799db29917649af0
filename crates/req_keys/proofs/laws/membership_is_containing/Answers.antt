use Rattle.req_keys.proofs.MemberLaws.{has-from_Contains, Contains-from_has}
use Rattle.req_keys.proofs.laws.membership_is_containing.Goals as goal

pub returns : goal.returns
returns c = λ members position. (Contains-from_has members position, has-from_Contains members position)
