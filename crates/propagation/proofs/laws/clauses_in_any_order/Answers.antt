use Rattle.propagation.proofs.ValueLaws.{clash-same, value-same}
use Rattle.propagation.proofs.laws.clauses_in_any_order.Goals as goal

pub returns-clause-clash : goal.returns-clause-clash
returns-clause-clash c = clash-same

pub returns-clause-values : goal.returns-clause-values
returns-clause-values c = value-same
