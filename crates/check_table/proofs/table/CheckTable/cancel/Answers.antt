use Rattle.std.proofs.Common.{◌<◌, length, rules, refl, sym, ap, ◌∙◌, arith}
use Rattle.check_table.specs.Places.{key_width}
use Rattle.check_table.specs.inside.Seated.{main_of}
use Rattle.check_table.proofs.Entries.{at_less}
use Rattle.check_table.proofs.Seating.{at_slot, cancelled, cancel_keeps}
use Rattle.check_table.proofs.Mains.{may_cancel}
use Rattle.check_table.proofs.table.CheckTable.cancel.Goals as goal

pub at-at-requires-clause-entry : goal.at-at-requires-clause-entry
at-at-requires-clause-entry c =
    let posted : c.args.entry < length c.args.main.now.sees.entries = at_less _ _ _ c.requires.wanted.at in let own = c.requires.own.size in let entries = ap (λ z. length z.sees.entries) c.main.view_is in let size = ap (λ z. z.sees.size) c.main.view_is in
    let i = c.main.invariant.2 in let j = c.main.invariant.4 in omega arith

pub fetch_or-requires : goal.fetch_or-requires
fetch_or-requires c =
    let width = ap (λ z. key_width z.problem) c.self.view_is in
    let problem = ap (λ z. z.sees.problem) c.main.view_is ∙ c.requires.own.problem ∙ sym (ap (λ z. z.problem) c.self.view_is) in
    let entries = ap (λ z. length z.sees.entries) c.main.view_is in let posted : c.args.entry < length c.args.main.now.sees.entries = at_less _ _ _ c.requires.wanted.at in (
      search rules,
      search rules,
      may_cancel _ _ _ _ _ _ _ c.args.entry c.main.invariant.1 c.main.invariant.0 problem (omega arith) (c.at-at.ensures.place ∙ at_slot 0 (sym width) refl),
    )

pub invariant_of-main : goal.invariant_of-main
invariant_of-main c = let i = c.main.invariant in
    let problem = ap (λ z. z.sees.problem) c.main.view_is ∙ c.requires.own.problem in
    cancel_keeps _ _ _ _ _ (main_of c.main.inside.seat.me.0) c.args.entry c.at-at.result c.fetch_or.result (c.fetch_or.ensures.1 ∙ i.0, i.1, i.2, i.3, i.4, i.5)
    (cancelled c.self.inside.table.shared.table_id.slots _ _ _ _ _ c.args.entry i.1 problem c.at-at.ensures.place c.fetch_or.ensures.2)
