use Rattle.std.proofs.Common.{◌<◌, ◌∙◌, sym, ap, subst, false, length, get_or, arith}
use Rattle.std.proofs.lemmas.List.{get_or_default}
use Rattle.clauses.specs.Clause.{has}
use Rattle.propagation.specs.inside.Trails.{Trailing, code_of}
use Rattle.propagation.proofs.CodeLaws.{code-below}
use Rattle.propagation.proofs.trail.Trail.is_true.Goals as goal

pub returns-clause-answer : goal.returns-clause-answer
returns-clause-answer c =
    let inside = c.self.inside in
    let below : c.args.literal.var < length inside.places.items = subst (λ (t : Trailing). c.args.literal.var < t.variables) (sym c.self.view_is) c.requires in
    let low = code-below (length inside.places.items) c.args.literal below in
    let size = c.self.invariant.1.sized in
    c.index.ensures
    ∙ ap (λ k. get_or inside.values.items k c.index.result.now) c.slot.ensures
    ∙ get_or_default inside.values.items (code_of c.args.literal) c.index.result.now false (omega arith)
    ∙ c.self.invariant.1.valued c.args.literal below
    ∙ ap (λ (t : Trailing). has t.literals c.args.literal) c.self.view_is
