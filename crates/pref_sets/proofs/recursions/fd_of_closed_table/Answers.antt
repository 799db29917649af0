use Rattle.pref_sets.specs.Answers.{IsWithinSat}
use Rattle.pref_sets.proofs.ClosedTables.{AgreesWith-closed, IsWithinSat-fewer, IsWithinSat-unsat}
use Rattle.pref_sets.proofs.KeptByHalves.{fd-kept}
use Rattle.pref_sets.proofs.AscendingPositions.{Ascends-from_increasing}
use Rattle.pref_sets.proofs.recursions.fd_of_closed_table.Goals as goal

pub returns : goal.returns
returns c = λ positions kept table rises closed unsat e.
    fd-kept (IsWithinSat table) (IsWithinSat-fewer table) positions kept table (Ascends-from_increasing positions rises) (IsWithinSat-unsat table closed positions unsat) (AgreesWith-closed table closed) e
