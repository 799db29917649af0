use Rattle.std.proofs.Common.{sym, ◌∙◌, subst}
use Rattle.std.specs.Prelude.{slice_index}
use Rattle.check_table.specs.Rule.{TicketStands}
use Rattle.check_table.specs.declared.view.Stage.{Stage}
use Rattle.check_table.proofs.laws.no_two_seats_run_one_entry.Goals as goal

pub returns : goal.returns
returns c p size s r i j v w t a b at_i at_j runs_v runs_w =
    let x = subst (λ (g : Stage). TicketStands r.cells r.owner (slice_index s.words 0) i g) runs_v (r.tickets.tickets i v at_i) in
    let y = subst (λ (g : Stage). TicketStands r.cells r.owner (slice_index s.words 0) j g) runs_w (r.tickets.tickets j w at_j) in
    sym x.1 ∙ y.1
