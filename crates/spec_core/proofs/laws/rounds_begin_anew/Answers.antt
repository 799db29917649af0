use Rattle.spec_core.proofs.RoundLaws.{begins-anew}
use Rattle.spec_core.proofs.laws.rounds_begin_anew.Goals as goal

pub returns : goal.returns
returns c = λ verdict world workers stopped are. begins-anew verdict workers world stopped are
