use Rattle.std.proofs.Common.{◌≡◌, subst}
use Rattle.check_table.specs.Found.{IsRunning}
use Rattle.check_table.specs.Seats.{WorkerSees}
use Rattle.diag_workers.proofs.rounds.+with_workers.Goals.{in-Ok, in-Err}
use Rattle.diag_workers.proofs.rounds.+with_workers.Goals as goal

at_rest : (seat back : WorkerSees) → seat ≡ back → (IsRunning back.sees → ⊥) → IsRunning seat.sees → ⊥
at_rest seat back is rests runs = let P : WorkerSees → Type 0 = λ s. IsRunning s.sees in rests (subst P is runs)

-- a worker hands back a seat that runs no entry
pub leave-requires-clause-rests : goal.leave-requires-clause-rests
leave-requires-clause-rests g t c =
    elim c.match-child.branch [
      | in-Ok w ↦ at_rest c.match-child.seat w.join-seat.result w.seat-is w.join-seat.ensures.1
      | in-Err w ↦ at_rest c.match-child.seat w.spawn_with-seat.result w.seat-is w.spawn_with-seat.ensures.1
    ]
