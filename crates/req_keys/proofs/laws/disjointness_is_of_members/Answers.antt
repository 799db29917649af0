use Rattle.std.proofs.Common.{not, ap}
use Rattle.std.specs.Prelude.{Contains}
use Rattle.std.proofs.lemmas.Bool.{not-true, both_ways}
use Rattle.req_keys.specs.Positions.{has}
use Rattle.req_keys.proofs.MemberLaws.{has-from_Contains, not_has-from_none, list_all-iff}
use Rattle.req_keys.proofs.laws.disjointness_is_of_members.Goals as goal

pub returns : goal.returns
returns c = λ a b.
    list_all-iff (λ i. not (has b.members i)) (λ i. ¬ Contains b.members i)
    (λ i e in_b. both_ways (has b.members i) (not-true (has b.members i) e) (has-from_Contains b.members i in_b))
    (λ i none. ap not (not_has-from_none b.members i none))
    a.members
