use Rattle.std.proofs.Common.{ap, is_some}
use Rattle.clauses.proofs.AttemptLaws.{searched}
use Rattle.clauses.proofs.laws.search_ends.Goals as goal

pub returns : goal.returns
returns c = λ problem key. ap is_some (searched problem key).1
