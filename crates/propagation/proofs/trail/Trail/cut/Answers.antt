use Rattle.std.proofs.Common.{◌-◌, subst, List, ℕ, Bool, length, take, drop, arith}
use Rattle.std.proofs.lemmas.List.{length-drop, take_all}
use Rattle.clauses.specs.declared.literal.Lit.{Lit}
use Rattle.propagation.specs.inside.Trails.{AreUnset}
use Rattle.propagation.proofs.TrailValues.{trail-cut, values-cut}
use Rattle.propagation.proofs.WatchLaws.{whole}
use Rattle.propagation.proofs.trail.Trail.cut.Goals as goal

pub invariant_of-self : goal.invariant_of-self
invariant_of-self c =
    let literals : List Lit = c.self.inside.literals.items in
    let places : List ℕ = c.self.inside.places.items in
    let values : List Bool = c.self.inside.values.items in
    let new : List Bool = c.unset.new.values in
    let is : AreUnset values (drop c.args.count literals) new =
    subst (λ gone. AreUnset values gone new) (take_all (length literals - c.args.count) (drop c.args.count literals) (let size = length-drop c.args.count literals in omega arith))
    (subst (λ vs. AreUnset vs (take (length literals - c.args.count) (drop c.args.count literals)) new) c.deref_mut.ensures.value
    (subst (λ ls. AreUnset c.deref_mut.result.now (take (length ls - c.args.count) (drop c.args.count ls)) new) c.deref.ensures.value c.unset.ensures)) in
    rw (c.truncate.ensures.items, c.truncate.ensures.capacity, whole c.self.inside.values.len new values (omega arith) is.0)
    (trail-cut literals places _ c.self.invariant.0 c.args.count, values-cut literals places _ c.self.invariant.0 c.args.count values c.self.invariant.1 new is)
