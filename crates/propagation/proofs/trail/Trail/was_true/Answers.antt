use Rattle.std.proofs.Common.{◌∙◌, sym, ap, subst, length, take, ◌<◌, get_or}
use Rattle.std.proofs.lemmas.List.{get_or_default}
use Rattle.std.proofs.lemmas.Bool.{le-ltb}
use Rattle.clauses.specs.Clause.{has}
use Rattle.propagation.specs.inside.Trails.{Trailing}
use Rattle.propagation.proofs.TrailLaws.{was-at, was-past}
use Rattle.propagation.proofs.trail.Trail.was_true.Goals as goal

pub returns-then-index-count : goal.returns-then-index-count
returns-then-index-count c =
    let inside = c.self.inside in
    let below : c.args.literal.var < length inside.places.items = subst (λ (t : Trailing). c.args.literal.var < t.variables) (sym c.self.view_is) c.requires in
    c.is_true.ensures.answer
    ∙ ap (λ (t : Trailing). has t.literals c.args.literal) (sym c.self.view_is)
    ∙ was-at inside.literals.items inside.places.items _ c.self.invariant.0 c.args.literal c.args.count c.index.result.now
    (c.index.ensures ∙ ap (λ k. get_or inside.places.items k c.index.result.now) c.variable.ensures ∙ get_or_default inside.places.items c.args.literal.var c.index.result.now 0 below) c.if-index-count.true
    ∙ ap (λ (t : Trailing). has (take c.args.count t.literals) c.args.literal) c.self.view_is

pub returns-else-index-count : goal.returns-else-index-count
returns-else-index-count c =
    let inside = c.self.inside in
    let below : c.args.literal.var < length inside.places.items = subst (λ (t : Trailing). c.args.literal.var < t.variables) (sym c.self.view_is) c.requires in
    le-ltb c.index.result.now c.args.count c.if-index-count.false
    ∙ sym (was-past inside.literals.items inside.places.items _ c.self.invariant.0 c.args.literal c.args.count c.index.result.now
    (c.index.ensures ∙ ap (λ k. get_or inside.places.items k c.index.result.now) c.variable.ensures ∙ get_or_default inside.places.items c.args.literal.var c.index.result.now 0 below) c.if-index-count.false)
    ∙ ap (λ (t : Trailing). has (take c.args.count t.literals) c.args.literal) c.self.view_is
