use Rattle.pref_sets.proofs.AscendingPositions.{Ascends-from_increasing}
use Rattle.pref_sets.proofs.Renumbered.{fd-renumbered, fd-renumbered_asks, fd-renumbered_finds}
use Rattle.pref_sets.proofs.recursions.fd_goes_by_places.Goals as goal

pub returns-clause-same : goal.returns-clause-same
returns-clause-same c = λ positions background table small rises same.
    fd-renumbered positions (Ascends-from_increasing positions rises) background small table same

pub returns-clause-asks : goal.returns-clause-asks
returns-clause-asks c = λ positions background places table small rises more e none.
    fd-renumbered_asks positions (Ascends-from_increasing positions rises) background small table more places e none

pub returns-clause-finds : goal.returns-clause-finds
returns-clause-finds c = λ positions background places table small rises more e.
    fd-renumbered_finds positions (Ascends-from_increasing positions rises) background small table more places e
