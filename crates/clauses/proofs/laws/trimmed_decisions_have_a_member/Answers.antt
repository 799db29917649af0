use Rattle.clauses.specs.Problem.{clauses_with}
use Rattle.clauses.specs.Search.{allowance_of, first_of}
use Rattle.clauses.proofs.StandingLaws.{reached-no_clash, reached-member}
use Rattle.clauses.proofs.laws.trimmed_decisions_have_a_member.Goals as goal

pub returns-clause-no_clash : goal.returns-clause-no_clash
returns-clause-no_clash c = λ problem key attempt now at decided. reached-no_clash (first_of attempt) (clauses_with problem key) problem.variables (allowance_of problem attempt) at.0 now at.1 decided

pub returns-clause-member : goal.returns-clause-member
returns-clause-member c = λ problem key attempt now at decided. reached-member (first_of attempt) (clauses_with problem key) problem.variables (allowance_of problem attempt) at.0 now at.1 decided
