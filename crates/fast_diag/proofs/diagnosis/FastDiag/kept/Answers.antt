use Rattle.std.proofs.Common.{◌≡◌, ℕ, sym, ◌∙◌, ap, subst}
use Rattle.pref_sets.specs.Answers.{Done}
use Rattle.req_keys.specs.Wanting.{key_over}
use Rattle.fast_diag.specs.Diagnosing.{Diagnosing, next_of}
use Rattle.fast_diag.specs.inside.Standing.{Stands}
use Rattle.fast_diag.specs.declared.parts.Part.{Part}
use Rattle.fast_diag.proofs.Standing.{stands-asks, stands-done, kept-key}
use Rattle.fast_diag.proofs.diagnosis.FastDiag.kept.Goals as goal

pub returns-in-Asks : goal.returns-in-Asks
returns-in-Asks c set e =
    let done = subst (λ (d : Diagnosing). next_of d ≡ Done set) (sym c.self.view_is) e in
    let h = subst (λ (part : Part). Stands c.self.inside.n c.self.inside.told part) c.in-Asks.is c.self.invariant in
    let other = sym (stands-asks c.self.inside.n c.self.inside.told c.in-Asks.asking h) ∙ done in
    absurd (cc (other))

pub returns-in-Done : goal.returns-in-Done
returns-in-Done c set e =
    let number : Diagnosing → ℕ = λ d. d.n in
    let done = subst (λ (d : Diagnosing). next_of d ≡ Done set) (sym c.self.view_is) e in
    let h = subst (λ (part : Part). Stands c.self.inside.n c.self.inside.told part) c.in-Done.is c.self.invariant in
    let both : Done c.in-Done.kept.members ≡ Done set = sym (stands-done c.self.inside.n c.self.inside.told c.in-Done.kept h) ∙ done in
    let same : c.in-Done.kept.members ≡ set = cc (both) in
    kept-key c.self.inside.n c.self.inside.told c.in-Done.kept h ∙ ap (key_over c.self.inside.n) same ∙ ap (λ k. key_over k set) (ap number c.self.view_is)
