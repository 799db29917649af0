use Rattle.std.proofs.Common.{◌≡◌, map, subst}
use Rattle.req_keys.specs.Wanting.{key_over}
use Rattle.hs_tree.specs.Hitting.{Hitting, found_after}
use Rattle.hs_tree.proofs.Standing.{found-keys}
use Rattle.hs_tree.proofs.hitting.HsTree.found.Goals as goal

pub returns : goal.returns
returns c =
    subst (λ (d : Hitting). c.self.inside.state.found.diagnoses ≡ map (key_over d.first.n) (found_after d)) c.self.view_is
    (found-keys c.self.inside.first c.self.inside.most c.self.inside.state c.self.invariant)
