use Rattle.std.proofs.Common.{[], refl}
use Rattle.serving.proofs.RoundTurns.{held-none, turn-follows}
use Rattle.serving.proofs.laws.turns_follow.Goals as goal

pub returns-clause-next : goal.returns-clause-next
returns-clause-next c main before after orders asked list held turn same = turn-follows main before after orders asked list turn held same

pub returns-clause-begins : goal.returns-clause-begins
returns-clause-begins c main entries none size = held-none main entries [] 0 none size

pub returns-clause-first : goal.returns-clause-first
returns-clause-first c entries asked list = refl
