use Rattle.clauses.specs.Problem.{clauses_with}
use Rattle.clauses.specs.Search.{Sat, allowance_of, first_of, turn_count}
use Rattle.clauses.proofs.AttemptLaws.{search-of}
use Rattle.clauses.proofs.KeyRoots.{clauses_with-below}
use Rattle.clauses.proofs.SatLaws.{sat-satisfies}
use Rattle.clauses.proofs.laws.sat_is_an_assignment.Goals as goal

pub returns-clause-sized : goal.returns-clause-sized
returns-clause-sized c = λ problem key values is e.
    let of = search-of problem key (Sat values) e in
    (sat-satisfies (first_of of.attempt) (clauses_with problem key) problem.variables (allowance_of problem of.attempt) (clauses_with-below problem key is) (turn_count problem.variables (allowance_of problem of.attempt)) values of.is).0

pub returns-clause-satisfied : goal.returns-clause-satisfied
returns-clause-satisfied c = λ problem key values is e.
    let of = search-of problem key (Sat values) e in
    (sat-satisfies (first_of of.attempt) (clauses_with problem key) problem.variables (allowance_of problem of.attempt) (clauses_with-below problem key is) (turn_count problem.variables (allowance_of problem of.attempt)) values of.is).1
