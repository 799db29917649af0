use Rattle.std.proofs.Common.{subst, ◌≤◌, arith}
use Rattle.propagation.specs.inside.Trails.{Trailing}
use Rattle.propagation.proofs.TrailLaws.{vars-few}
use Rattle.propagation.proofs.trail.Trail.len.Goals as goal

pub returns-clause-most : goal.returns-clause-most
returns-clause-most c =
    subst (λ (t : Trailing). c.len.result ≤ t.variables) c.self.view_is
    (let few = vars-few c.self.inside.literals.items c.self.inside.places.items _ c.self.invariant.0 in let l = c.len.ensures in omega arith)
