use Rattle.std.proofs.Common.{◌≡◌, ◌∙◌, sym, ap, subst, true, length, [], ◌∷◌, ◌++◌, ◌<◌, set, vec_len, vec_capacity, arith}
use Rattle.std.proofs.lemmas.List.{length-set}
use Rattle.clauses.specs.Clause.{has, negation}
use Rattle.propagation.specs.inside.Trails.{AreValues, IsTrail, Trailing}
use Rattle.propagation.proofs.TrailLaws.{room-for-one, trail-push}
use Rattle.propagation.proofs.TrailValues.{values-push}
use Rattle.propagation.proofs.trail.Trail.put.Goals as goal

pub push_reserved-requires : goal.push_reserved-requires
push_reserved-requires c =
    let few =
    room-for-one c.self.inside.literals.items c.self.inside.places.items _ c.self.invariant.0 c.args.literal
    (subst (λ (t : Trailing). c.args.literal.var < t.variables) (sym c.self.view_is) c.requires.variable)
    (ap (λ (t : Trailing). has t.literals c.args.literal) c.self.view_is ∙ c.requires.not_true)
    (ap (λ (t : Trailing). has t.literals (negation c.args.literal)) c.self.view_is ∙ c.requires.not_false) in
    omega arith

pub invariant_of-self : goal.invariant_of-self
invariant_of-self c =
    let size : length c.self.inside.literals.items ≡ vec_len c.self.inside.literals = omega arith in
    let below = subst (λ (t : Trailing). c.args.literal.var < t.variables) (sym c.self.view_is) c.requires.variable in
    rw (c.push_reserved.ensures.items, c.push_reserved.ensures.capacity, c.len.ensures, c.variable.ensures) (
      subst (λ n. IsTrail (c.self.inside.literals.items ++ c.args.literal ∷ []) (set c.self.inside.places.items c.args.literal.var n) (vec_capacity c.self.inside.literals)) size
          (trail-push c.self.inside.literals.items c.self.inside.places.items _ c.self.invariant.0 c.args.literal
          below
          (ap (λ (t : Trailing). has t.literals c.args.literal) c.self.view_is ∙ c.requires.not_true)
          (ap (λ (t : Trailing). has t.literals (negation c.args.literal)) c.self.view_is ∙ c.requires.not_false)),
      subst (λ n. AreValues n (c.self.inside.literals.items ++ c.args.literal ∷ []) (set c.self.inside.values.items c.slot.result true)) (sym (length-set c.self.inside.places.items c.args.literal.var (vec_len c.self.inside.literals)))
          (subst (λ k. AreValues (length c.self.inside.places.items) (c.self.inside.literals.items ++ c.args.literal ∷ []) (set c.self.inside.values.items k true)) (sym c.slot.ensures)
          (values-push (length c.self.inside.places.items) c.self.inside.literals.items c.self.inside.values.items c.self.invariant.1 c.args.literal below)),
    )
