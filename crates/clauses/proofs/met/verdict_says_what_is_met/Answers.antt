use Rattle.clauses.proofs.MetLaws.{verdict-some, sat-met, unsat-unmet, met-sat, unmet-unsat}
use Rattle.clauses.proofs.met.verdict_says_what_is_met.Goals as goal

pub returns-clause-some : goal.returns-clause-some
returns-clause-some c = verdict-some

pub returns-clause-sat : goal.returns-clause-sat
returns-clause-sat c = sat-met

pub returns-clause-unsat : goal.returns-clause-unsat
returns-clause-unsat c = unsat-unmet

pub returns-clause-decided_sat : goal.returns-clause-decided_sat
returns-clause-decided_sat c = λ problem key is n. (sat-met problem key is, met-sat problem key n)

pub returns-clause-decided_unsat : goal.returns-clause-decided_unsat
returns-clause-decided_unsat c = λ problem key is n. (unsat-unmet problem key, unmet-unsat problem key n is)
