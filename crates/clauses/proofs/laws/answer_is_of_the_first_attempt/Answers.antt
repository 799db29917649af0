use Rattle.std.proofs.Common.{arith}
use Rattle.clauses.proofs.AttemptLaws.{attempt-most, search-of}
use Rattle.clauses.proofs.laws.answer_is_of_the_first_attempt.Goals as goal

pub returns-clause-first : goal.returns-clause-first
returns-clause-first c = λ problem key answer e. let of = search-of problem key answer e in (of.attempt, attempt-most problem key answer of, of.is, λ earlier l. of.before earlier (omega arith) l)

pub returns-clause-capped : goal.returns-clause-capped
returns-clause-capped c = λ problem attempt. omega arith
