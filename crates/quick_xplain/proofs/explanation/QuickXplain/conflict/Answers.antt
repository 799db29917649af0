use Rattle.std.proofs.Common.{◌≡◌, ℕ, sym, ◌∙◌, ap, subst}
use Rattle.std.specs.Arc.{arc_value}
use Rattle.pref_sets.specs.Answers.{Done}
use Rattle.req_keys.specs.Wanting.{key_over}
use Rattle.quick_xplain.specs.Explaining.{Explaining, next_of}
use Rattle.quick_xplain.specs.inside.Standing.{Stands}
use Rattle.quick_xplain.specs.declared.parts.Part.{Part}
use Rattle.quick_xplain.proofs.Standing.{stands-asks, stands-done, conflict-key}
use Rattle.quick_xplain.proofs.explanation.QuickXplain.conflict.Goals as goal

pub returns-in-Asks : goal.returns-in-Asks
returns-in-Asks c set e =
    let done = subst (λ (d : Explaining). next_of d ≡ Done set) (sym c.self.view_is) e in
    let h = subst (λ (part : Part). Stands (arc_value c.self.inside.among) c.self.inside.told part) c.in-Asks.is c.self.invariant in
    let other = sym (stands-asks (arc_value c.self.inside.among) c.self.inside.told c.in-Asks.asking h) ∙ done in
    absurd (cc (other))

pub returns-in-Done : goal.returns-in-Done
returns-in-Done c set e =
    let number : Explaining → ℕ = λ d. d.among.n in
    let done = subst (λ (d : Explaining). next_of d ≡ Done set) (sym c.self.view_is) e in
    let h = subst (λ (part : Part). Stands (arc_value c.self.inside.among) c.self.inside.told part) c.in-Done.is c.self.invariant in
    let both : Done c.in-Done.conflict.members ≡ Done set = sym (stands-done (arc_value c.self.inside.among) c.self.inside.told c.in-Done.conflict h) ∙ done in
    let same : c.in-Done.conflict.members ≡ set = cc (both) in
    conflict-key (arc_value c.self.inside.among) c.self.inside.told c.in-Done.conflict h ∙ ap (key_over (arc_value c.self.inside.among).n) same ∙ ap (λ k. key_over k set) (ap number c.self.view_is)
