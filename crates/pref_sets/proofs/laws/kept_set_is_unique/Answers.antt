use Rattle.std.proofs.Common.{[]}
use Rattle.pref_sets.specs.Kept.{with_item}
use Rattle.pref_sets.proofs.GreedyLaws.{IsGreedy-unique}
use Rattle.pref_sets.proofs.laws.kept_set_is_unique.Goals as goal

pub returns : goal.returns
returns g c = λ about items a b p q. IsGreedy-unique (g.P.Property.holds about) with_item items [] a b p q
