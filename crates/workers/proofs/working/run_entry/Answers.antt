use Rattle.std.proofs.Common.{◌≡◌, Some, sym, ap, ◌∙◌, subst}
use Rattle.std.specs.Prelude.{IfOk, Result}
use Rattle.req_keys.specs.declared.verdict.Verdict.{Verdict}
use Rattle.clauses.specs.Search.{verdict_on}
use Rattle.check_table.specs.Seats.{WorkerSees}
use Rattle.solver.specs.declared.answer.SolveError.{SolveError}
use Rattle.workers.proofs.Tickets.{found_right}
use Rattle.workers.proofs.working.run_entry.Goals as goal

pub leave_entry-kept-requires-clause-right : goal.leave_entry-kept-requires-clause-right
leave_entry-kept-requires-clause-right c = λ verdict is.
    let stays = c.verdict-found.ensures.stays in
    let seat = c.into_seat-w.ensures.seat in
    let made = c.new-stop.ensures.seat in
    let problem = c.read.new.self in
    let key = c.in-Ok.key in
    found_right c.read.new.w.sees c.into_seat-w.result.sees problem key verdict c.in-Ok.ensures.key
    (ap (λ (w : WorkerSees). w.sees.stage) seat ∙ stays.stage ∙ ap (λ (w : WorkerSees). w.sees.stage) made)
    (ap (λ (w : WorkerSees). w.sees.problem) seat ∙ stays.problem ∙ ap (λ (w : WorkerSees). w.sees.problem) made)
    (c.read.ensures.problem ∙ sym c.requires.problem ∙ sym c.read.ensures.own.problem)
    (subst (λ (r : Result Verdict SolveError). IfOk r (λ v. verdict_on problem key ≡ Some v)) is c.verdict-found.ensures.verdict)
