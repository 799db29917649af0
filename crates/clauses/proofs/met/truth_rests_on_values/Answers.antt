use Rattle.std.proofs.Common.{sym, length, ◌++◌}
use Rattle.clauses.proofs.AgreeLaws.{satisfied-same, agree-longer}
use Rattle.clauses.proofs.met.truth_rests_on_values.Goals as goal

pub returns-clause-agree : goal.returns-clause-agree
returns-clause-agree c = λ bound a b clauses below agree. satisfied-same bound a b agree clauses below

pub returns-clause-more : goal.returns-clause-more
returns-clause-more c = λ values more clauses below. sym (satisfied-same (length values) values (values ++ more) (agree-longer values more) clauses below)
