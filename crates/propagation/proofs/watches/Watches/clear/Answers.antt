use Rattle.std.proofs.Common.{◌∙◌, subst, set, List, ℕ, ◌+◌, ◌*◌, arith}
use Rattle.std.proofs.lemmas.List.{length-set}
use Rattle.clauses.specs.declared.literal.Lit.{Lit}
use Rattle.propagation.specs.inside.Watching.{IsReleased, nothing}
use Rattle.propagation.proofs.WatchLaws.{ended-watches, release-all, whole}
use Rattle.propagation.proofs.watches.Watches.clear.Goals as goal

pub invariant_of-self : goal.invariant_of-self
invariant_of-self c =
    let variables = c.self.inside.variables in
    let watched : List Lit = c.self.inside.watched.items in
    let next : List ℕ = c.self.inside.next.items in
    let heads : List ℕ = c.self.inside.heads.items in
    let new : List ℕ = c.release.new.heads in
    let is : IsReleased heads watched new = subst (λ hs. IsReleased hs watched new) c.deref_mut.ensures.value (subst (λ ls. IsReleased c.deref_mut.result.now ls new) c.deref.ensures.value c.release.ensures) in
    rw (c.clear.ensures.items, c.clear-2.ensures.items, whole c.self.inside.heads.len new heads (omega arith) is.0)
    (ended-watches variables c.none.result watched (set new (2 * variables + 1) nothing) next (length-set new (2 * variables + 1) nothing ∙ is.0 ∙ c.self.invariant.slots)
    (release-all variables c.self.inside.pairs watched heads next c.self.invariant new is))
