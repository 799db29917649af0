use Rattle.serving.proofs.RoundTurns.{round-begins}
use Rattle.serving.proofs.laws.rounds_begin.Goals as goal

pub returns : goal.returns
returns c main before after orders asked list none size turn new = round-begins main before after orders asked list turn none size new
