use Rattle.pref_sets.specs.Answers.{IsWithinSat}
use Rattle.std.proofs.Common.{[]}
use Rattle.pref_sets.proofs.BestLaws.{IsTrimmed-holds, IsTrimmed-minimal}
use Rattle.pref_sets.proofs.ClosedTables.{AgreesWith-closed, IsWithinSat-fewer, IsWithinSat-unsat, IsWithinSat-sat}
use Rattle.pref_sets.proofs.TrimmedByHalves.{qx-trimmed, Fails, more-fails}
use Rattle.pref_sets.proofs.AscendingPositions.{Ascends-from_increasing, IsDistinct-from_Ascends}
use Rattle.pref_sets.proofs.recursions.qx_of_closed_table.Goals as goal

pub returns-clause-trimmed : goal.returns-clause-trimmed
returns-clause-trimmed c = λ positions left table rises closed empty e.
    qx-trimmed (IsWithinSat table) (IsWithinSat-fewer table) positions left table (Ascends-from_increasing positions rises) (IsWithinSat-sat table [] empty) (AgreesWith-closed table closed) e

pub returns-clause-conflict : goal.returns-clause-conflict
returns-clause-conflict c = λ positions left table rises closed unsat empty e.
    IsTrimmed-holds (Fails (IsWithinSat table) (IsWithinSat-fewer table)) (more-fails (IsWithinSat table) (IsWithinSat-fewer table)) positions left
    (IsDistinct-from_Ascends positions (Ascends-from_increasing positions rises)) (IsWithinSat-unsat table closed positions unsat)
    (qx-trimmed (IsWithinSat table) (IsWithinSat-fewer table) positions left table (Ascends-from_increasing positions rises) (IsWithinSat-sat table [] empty) (AgreesWith-closed table closed) e)

pub returns-clause-minimal : goal.returns-clause-minimal
returns-clause-minimal c = λ positions left table rises closed empty e.
    IsTrimmed-minimal (Fails (IsWithinSat table) (IsWithinSat-fewer table)) (more-fails (IsWithinSat table) (IsWithinSat-fewer table)) positions left
    (IsDistinct-from_Ascends positions (Ascends-from_increasing positions rises))
    (qx-trimmed (IsWithinSat table) (IsWithinSat-fewer table) positions left table (Ascends-from_increasing positions rises) (IsWithinSat-sat table [] empty) (AgreesWith-closed table closed) e)
