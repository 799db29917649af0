use Rattle.std.proofs.Common.{reverse}
use Rattle.pref_sets.specs.Trimmed.{without_item}
use Rattle.pref_sets.proofs.GreedyLaws.{IsGreedy-unique}
use Rattle.pref_sets.proofs.laws.trimmed_set_is_unique.Goals as goal

pub returns : goal.returns
returns g c = λ about items a b p q. IsGreedy-unique (g.P.Property.holds about) without_item (reverse items) items a b p q
