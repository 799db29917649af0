use Rattle.script.proofs.SequentialRuns.{want-key}
use Rattle.script.proofs.laws.job_asks_new_keys.Goals as goal

pub returns-clause-new : goal.returns-clause-new
returns-clause-new c = λ plan told part key e. (want-key plan told part key e).new

pub returns-clause-positions : goal.returns-clause-positions
returns-clause-positions c = λ plan told part key e. let key_is = want-key plan told part key e in (key_is.size, key_is.rises)
