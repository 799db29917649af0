use Rattle.std.proofs.Common.{length, rules, refl, sym, ap, ◌∙◌, arith}
use lib.ListN.{get_elem?}
use Rattle.check_table.specs.Places.{key_width}
use Rattle.check_table.specs.Steps.{Seat}
use Rattle.check_table.specs.inside.Seated.{main_of}
use Rattle.check_table.proofs.Entries.{less_at}
use Rattle.check_table.proofs.Seating.{at_slot, looked, looked_told, look_keeps, look_met, told_small, told_right, told_kept}
use Rattle.check_table.proofs.Mains.{may_look}
use Rattle.check_table.proofs.table.CheckTable.look.Goals as goal

pub load-found-requires : goal.load-found-requires
load-found-requires c =
    let width = ap (λ z. key_width z.problem) c.self.view_is in
    let problem = ap (λ z. z.sees.problem) c.main.view_is ∙ c.requires.own.problem ∙ sym (ap (λ z. z.problem) c.self.view_is) in
    let entries = ap (λ z. length z.sees.entries) c.main.view_is in let posted = c.requires.posted in (
      search rules,
      search rules,
      may_look _ _ _ _ _ _ _ c.args.entry c.main.invariant.1 c.main.invariant.0 problem (omega arith) (c.at-at.ensures.place ∙ at_slot 0 (sym width) refl),
    )

pub cell_at-requires : goal.cell_at-requires
cell_at-requires c =
    let problem = ap (λ z. z.sees.problem) c.main.view_is ∙ c.requires.own.problem in
    let found = less_at _ _ c.requires.posted in
    let at = ap (λ z. get_elem? z.sees.entries c.args.entry) c.main.view_is ∙ found.1 in
    told_small _ _ _ (looked_told c.self.inside.table.shared.table_id.slots _ _ _ _ _ c.args.entry c.main.invariant.1 problem c.at-at.ensures.place _ at c.load-found.ensures.2)

pub invariant_of-main : goal.invariant_of-main
invariant_of-main c = let i = c.main.invariant in
    let problem = ap (λ z. z.sees.problem) c.main.view_is ∙ c.requires.own.problem in
    look_keeps _ _ _ _ _ (main_of c.main.inside.seat.me.0) c.args.entry c.at-at.result c.load-found.result (c.load-found.ensures.1 ∙ i.0, i.1, i.2, i.3, i.4, i.5)
    (looked c.self.inside.table.shared.table_id.slots _ _ _ _ _ c.args.entry i.1 problem c.at-at.ensures.place c.load-found.ensures.2)

pub returns-clause-answer : goal.returns-clause-answer
returns-clause-answer c e at' =
    let problem = ap (λ z. z.sees.problem) c.main.view_is ∙ c.requires.own.problem in
    let at = ap (λ z. get_elem? z.sees.entries c.args.entry) c.main.view_is ∙ at' in
    look_met _ e _ _ _ (looked_told c.self.inside.table.shared.table_id.slots _ _ _ _ _ c.args.entry c.main.invariant.1 problem c.at-at.ensures.place _ at c.load-found.ensures.2)
    (ap (λ (z : Seat). (main_of z.0).trace.word) (looked c.self.inside.table.shared.table_id.slots _ _ _ _ _ c.args.entry c.main.invariant.1 problem c.at-at.ensures.place c.load-found.ensures.2))
    c.cell_at.ensures

pub returns-clause-right : goal.returns-clause-right
returns-clause-right c e at' v is =
    let problem = ap (λ z. z.sees.problem) c.main.view_is ∙ c.requires.own.problem in
    let at = ap (λ z. get_elem? z.sees.entries c.args.entry) c.main.view_is ∙ at' in
    told_right _ _ _ (looked_told c.self.inside.table.shared.table_id.slots _ _ _ _ _ c.args.entry c.main.invariant.1 problem c.at-at.ensures.place _ at c.load-found.ensures.2) v
    (sym c.cell_at.ensures ∙ is)

pub returns-clause-kept : goal.returns-clause-kept
returns-clause-kept c e at' v seen =
    let problem = ap (λ z. z.sees.problem) c.main.view_is ∙ c.requires.own.problem in
    let at = ap (λ z. get_elem? z.sees.entries c.args.entry) c.main.view_is ∙ at' in
    c.cell_at.ensures ∙ told_kept _ _ _ (looked_told c.self.inside.table.shared.table_id.slots _ _ _ _ _ c.args.entry c.main.invariant.1 problem c.at-at.ensures.place _ at c.load-found.ensures.2) v seen
