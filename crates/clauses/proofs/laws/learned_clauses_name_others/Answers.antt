use Rattle.std.proofs.Common.{arith}
use Rattle.clauses.specs.Problem.{clauses_with}
use Rattle.clauses.specs.Search.{allowance_of, first_of, turn_count}
use Rattle.clauses.proofs.AttemptLaws.{answer-limit}
use Rattle.clauses.proofs.StandingLaws.{reached-good}
use Rattle.clauses.proofs.BoundLaws.{reached-few, never-limit}
use Rattle.clauses.proofs.CauseLaws.{reached-members, reached-below, reached-allowed}
use Rattle.clauses.proofs.laws.learned_clauses_name_others.Goals as goal

pub returns-clause-members : goal.returns-clause-members
returns-clause-members c = λ problem key attempt now at. reached-members (first_of attempt) (clauses_with problem key) problem.variables (allowance_of problem attempt) at.0 now at.1

pub returns-clause-below : goal.returns-clause-below
returns-clause-below c = λ problem key attempt now at. reached-below (first_of attempt) (clauses_with problem key) problem.variables (allowance_of problem attempt) at.0 now at.1

pub returns-clause-within : goal.returns-clause-within
returns-clause-within c = λ problem key attempt now at. reached-allowed (first_of attempt) (clauses_with problem key) problem.variables (allowance_of problem attempt) at.0 now at.1

pub returns-clause-others : goal.returns-clause-others
returns-clause-others c = λ problem key attempt now at. (reached-good (first_of attempt) (clauses_with problem key) problem.variables (allowance_of problem attempt) at.0 now at.1).others

pub returns-clause-most : goal.returns-clause-most
returns-clause-most c = λ problem key attempt now at. let few = reached-few (first_of attempt) (clauses_with problem key) problem.variables (allowance_of problem attempt) at.0 now at.1 in omega arith

pub returns-clause-allowed : goal.returns-clause-allowed
returns-clause-allowed c = λ problem key attempt inside most e.
    never-limit (first_of attempt) (clauses_with problem key) problem.variables (allowance_of problem attempt) (turn_count problem.variables (allowance_of problem attempt)) (omega arith)
    (answer-limit problem key problem.rungs 0 e attempt (omega arith) (omega arith))
