use Rattle.std.proofs.Common.{◌<◌, length, rules, refl, sym, ap, ◌∙◌, subst, arith}
use lib.ListN.{get_elem?}
use Rattle.req_keys.specs.declared.verdict.Cell.{Cell}
use Rattle.check_table.specs.Places.{key_width}
use Rattle.check_table.specs.Steps.{Seat}
use Rattle.check_table.specs.Found.{TookIs}
use Rattle.check_table.specs.inside.Seated.{main_of, CanBeMet}
use Rattle.check_table.proofs.Entries.{at_less}
use Rattle.check_table.proofs.Seating.{at_slot, taken, taken_told, take_keeps, told_small, took_met, told_met, told_right, told_kept, took_answered, answered_took}
use Rattle.check_table.proofs.Mains.{may_take}
use Rattle.check_table.proofs.table.CheckTable.take.Goals as goal

pub at-at-requires-clause-entry : goal.at-at-requires-clause-entry
at-at-requires-clause-entry c =
    let posted : c.args.entry < length c.args.main.now.sees.entries = at_less _ _ _ c.requires.wanted.at in let own = c.requires.own.size in let entries = ap (λ z. length z.sees.entries) c.main.view_is in let size = ap (λ z. z.sees.size) c.main.view_is in
    let i = c.main.invariant.2 in let j = c.main.invariant.4 in omega arith

pub compare_exchange-found-requires : goal.compare_exchange-found-requires
compare_exchange-found-requires c =
    let width = ap (λ z. key_width z.problem) c.self.view_is in
    let problem = ap (λ z. z.sees.problem) c.main.view_is ∙ c.requires.own.problem ∙ sym (ap (λ z. z.problem) c.self.view_is) in
    let entries = ap (λ z. length z.sees.entries) c.main.view_is in let posted : c.args.entry < length c.args.main.now.sees.entries = at_less _ _ _ c.requires.wanted.at in (
      search rules,
      search rules,
      may_take _ _ _ _ _ _ _ c.args.entry c.main.invariant.1 c.main.invariant.0 problem (omega arith) (c.at-at.ensures.place ∙ at_slot 0 (sym width) refl),
    )

pub cell_at-requires : goal.cell_at-requires
cell_at-requires c =
    let problem = ap (λ z. z.sees.problem) c.main.view_is ∙ c.requires.own.problem in
    let at = ap (λ z. get_elem? z.sees.entries c.args.entry) c.main.view_is ∙ c.requires.wanted.at in
    told_small _ _ _ (taken_told c.self.inside.table.shared.table_id.slots _ _ _ _ _ c.args.entry c.main.invariant.1 problem c.at-at.ensures.place _ at c.compare_exchange-found.ensures.2)

pub took-requires : goal.took-requires
took-requires c =
    let problem = ap (λ z. z.sees.problem) c.main.view_is ∙ c.requires.own.problem in
    let at = ap (λ z. get_elem? z.sees.entries c.args.entry) c.main.view_is ∙ c.requires.wanted.at in
    subst CanBeMet (sym c.cell_at.ensures)
    (told_met _ _ _ (taken_told c.self.inside.table.shared.table_id.slots _ _ _ _ _ c.args.entry c.main.invariant.1 problem c.at-at.ensures.place _ at c.compare_exchange-found.ensures.2) c.requires.wanted.free)

pub invariant_of-main : goal.invariant_of-main
invariant_of-main c = let i = c.main.invariant in
    let problem = ap (λ z. z.sees.problem) c.main.view_is ∙ c.requires.own.problem in
    take_keeps _ _ _ _ _ (main_of c.main.inside.seat.me.0) c.args.entry c.at-at.result c.compare_exchange-found.result (c.compare_exchange-found.ensures.1 ∙ i.0, i.1, i.2, i.3, i.4, i.5)
    (taken c.self.inside.table.shared.table_id.slots _ _ _ _ _ c.args.entry i.1 problem c.at-at.ensures.place c.compare_exchange-found.ensures.2)

pub returns-clause-answer : goal.returns-clause-answer
returns-clause-answer c =
    let problem = ap (λ z. z.sees.problem) c.main.view_is ∙ c.requires.own.problem in
    let at = ap (λ z. get_elem? z.sees.entries c.args.entry) c.main.view_is ∙ c.requires.wanted.at in
    took_met _ _ _ _ _ (taken_told c.self.inside.table.shared.table_id.slots _ _ _ _ _ c.args.entry c.main.invariant.1 problem c.at-at.ensures.place _ at c.compare_exchange-found.ensures.2)
    (ap (λ (z : Seat). (main_of z.0).trace.word) (taken c.self.inside.table.shared.table_id.slots _ _ _ _ _ c.args.entry c.main.invariant.1 problem c.at-at.ensures.place c.compare_exchange-found.ensures.2))
    c.requires.wanted.kept (subst (λ (k : Cell). TookIs k c.took.result) c.cell_at.ensures c.took.ensures)

pub returns-clause-right : goal.returns-clause-right
returns-clause-right c e at' v is =
    let problem = ap (λ z. z.sees.problem) c.main.view_is ∙ c.requires.own.problem in
    let at = ap (λ z. get_elem? z.sees.entries c.args.entry) c.main.view_is ∙ at' in
    told_right _ _ _ (taken_told c.self.inside.table.shared.table_id.slots _ _ _ _ _ c.args.entry c.main.invariant.1 problem c.at-at.ensures.place _ at c.compare_exchange-found.ensures.2) v
    (sym c.cell_at.ensures ∙ took_answered _ _ v c.took.ensures is)

pub returns-clause-kept : goal.returns-clause-kept
returns-clause-kept c e at' v seen =
    let problem = ap (λ z. z.sees.problem) c.main.view_is ∙ c.requires.own.problem in
    let at = ap (λ z. get_elem? z.sees.entries c.args.entry) c.main.view_is ∙ at' in
    answered_took _ _ v c.took.ensures
    (c.cell_at.ensures ∙ told_kept _ _ _ (taken_told c.self.inside.table.shared.table_id.slots _ _ _ _ _ c.args.entry c.main.invariant.1 problem c.at-at.ensures.place _ at c.compare_exchange-found.ensures.2) v seen)
