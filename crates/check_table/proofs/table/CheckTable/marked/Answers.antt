use Rattle.std.proofs.Common.{ℕ, ◌<◌, rules, sym, ap, ◌∙◌, subst}
use Rattle.check_table.specs.Places.{key_width}
use Rattle.check_table.proofs.Seating.{run, at_slot}
use Rattle.check_table.proofs.Workers.{may_look_at_mark}
use Rattle.check_table.proofs.table.CheckTable.marked.Goals as goal

pub load-requires : goal.load-requires
load-requires c =
    let t = c.requires.running.0 in let read = c.requires.running.1 in
    let stage = ap (λ z. z.sees.stage) c.w.view_is ∙ c.requires.running.2 in
    let k = run _ _ t read _ stage c.w.invariant.3 in
    let size = ap (λ z. z.sees.size) c.w.view_is ∙ c.requires.own.size ∙ sym (ap (λ z. z.size) c.self.view_is) in
    let width = ap (λ z. key_width z.problem) c.self.view_is in (
      search rules,
      search rules,
      may_look_at_mark _ _ _ _ _ _ _ t read c.w.invariant.0 stage (subst (λ (n : ℕ). t < n) size k.1) (c.at-at.ensures.place ∙ at_slot 0 (sym width) (sym k.0)),
    )
