use Rattle.std.specs.Prelude.{Contains}
use Rattle.req_keys.specs.Positions.{has}
use Rattle.req_keys.proofs.MemberLaws.{has-from_Contains, Contains-from_has, list_all-iff}
use Rattle.req_keys.proofs.laws.subset_is_of_members.Goals as goal

pub returns : goal.returns
returns c = λ a b. list_all-iff (has b.members) (λ i. Contains b.members i) (Contains-from_has b.members) (has-from_Contains b.members) a.members
