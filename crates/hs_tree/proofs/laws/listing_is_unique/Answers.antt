use Rattle.hs_tree.proofs.OneListing.{one-listing}
use Rattle.hs_tree.proofs.laws.listing_is_unique.Goals as goal

pub returns : goal.returns
returns g c = λ about n most a b h k. one-listing (g.P.Property.holds about) n most a b h k
