use Rattle.clauses.specs.Problem.{clauses_with}
use Rattle.clauses.specs.Search.{Unsat, allowance_of, first_of, turn_count}
use Rattle.clauses.proofs.AttemptLaws.{attempt-most, search-of}
use Rattle.clauses.proofs.DerivationLaws.{reached-derived, unsat-derivation, unsat-lines, derivation-unsatisfiable}
use Rattle.clauses.proofs.laws.unsat_is_derived.Goals as goal

pub returns-clause-lines : goal.returns-clause-lines
returns-clause-lines c = λ problem key lines e.
    let of = search-of problem key (Unsat lines) e in
    let at = unsat-lines (first_of of.attempt) (clauses_with problem key) problem.variables (allowance_of problem of.attempt) (turn_count problem.variables (allowance_of problem of.attempt)) lines of.is in
    (of.attempt, at.0, attempt-most problem key (Unsat lines) of, at.1, at.2, at.3)

pub returns-clause-learned : goal.returns-clause-learned
returns-clause-learned c = λ problem key attempt now at. reached-derived (first_of attempt) (clauses_with problem key) problem.variables (allowance_of problem attempt) at.0 now at.1

pub returns-clause-derivation : goal.returns-clause-derivation
returns-clause-derivation c = λ problem key lines e.
    let of = search-of problem key (Unsat lines) e in
    unsat-derivation (first_of of.attempt) (clauses_with problem key) problem.variables (allowance_of problem of.attempt) (turn_count problem.variables (allowance_of problem of.attempt)) lines of.is

pub returns-clause-unsatisfiable : goal.returns-clause-unsatisfiable
returns-clause-unsatisfiable c = λ problem key lines e values.
    let of = search-of problem key (Unsat lines) e in
    derivation-unsatisfiable values (clauses_with problem key) lines
    (unsat-derivation (first_of of.attempt) (clauses_with problem key) problem.variables (allowance_of problem of.attempt) (turn_count problem.variables (allowance_of problem of.attempt)) lines of.is)
