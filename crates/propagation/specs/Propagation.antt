-- What a contract sees of a `Propagator`, and what the closure says of a variable. Own to this project.
use Rattle.std.specs.Prelude.{ℕ, true, false, List, ◌++◌, map, if◌then◌else◌, Bool, Option, Some, None}
use Rattle.req_keys.specs.Key.{PositionSet}
use Rattle.clauses.specs.declared.literal.Lit.{Lit}
use Rattle.clauses.specs.Clause.{has, positive_of, negative_of, literal_with, unit_of}
use Rattle.clauses.specs.Closure.{closure}
use Rattle.clauses.specs.Problem.{ClauseProblem, roots_at}
use Rattle.clauses.specs.Search.{Standing}

-- the problem, the assumed literals and the learned clauses, each in the order in which they came
pub record Propagation : Type 0 where
  pub problem : ClauseProblem
  pub assumed : List Lit
  pub learned : List (List Lit)

-- clauses, learned clauses, and each assumed literal in a clause of its own
abbrev pub all_of : List (List Lit) → List (List Lit) → List Lit → List (List Lit)
all_of clauses learned assumed = (clauses ++ learned) ++ map unit_of assumed

-- the clauses that are propagated
abbrev pub propagated : Propagation → List (List Lit)
propagated at = all_of at.problem.clauses at.learned at.assumed

-- what the closure of the clauses says of a variable; where it has both literals, which only happens in a clash, the
-- positive one counts
abbrev pub value_of : List (List Lit) → ℕ → Option Bool
value_of clauses var = if has (closure clauses) (positive_of var) then Some true else (if has (closure clauses) (negative_of var) then Some false else None)

-- how a search stands on a propagation: the roots of the key are assumed first, and then the decisions, at the first value
abbrev pub as_searched : ClauseProblem → PositionSet → Bool → Standing → Propagation
as_searched problem key first now = record { problem = problem; assumed = roots_at problem key ++ map (literal_with first) now.decisions; learned = now.learned }
