use Rattle.std.proofs.Common.{ℕ, ◌+◌, ◌*◌, ◌<◌, rules, sym, ap, ◌∙◌, subst}
use Rattle.check_table.specs.Places.{key_width}
use Rattle.check_table.proofs.Seating.{held, at_slot}
use Rattle.check_table.proofs.Workers.{may_claim}
use Rattle.check_table.proofs.table.CheckTable.claim.Goals as goal

pub compare_exchange-found-requires : goal.compare_exchange-found-requires
compare_exchange-found-requires c =
    let t = c.requires.holding.0 in
    let stage = ap (λ z. z.sees.stage) c.w.view_is ∙ c.requires.holding.1 in
    let k = held _ _ t _ stage c.w.invariant.3 in
    let size = ap (λ z. z.sees.size) c.w.view_is ∙ c.requires.own.size ∙ sym (ap (λ z. z.size) c.self.view_is) in
    let width = ap (λ z. key_width z.problem) c.self.view_is in (
      search rules,
      search rules,
      may_claim _ _ _ _ _ _ _ t _ c.w.invariant.0 stage (subst (λ (n : ℕ). t < n) size k.1)
          (c.at-at.ensures.place ∙ at_slot 0 (sym width) (sym k.0))
          (ap (λ (n : ℕ). 2 + 256 * n) (sym c.w.invariant.1)),
    )
