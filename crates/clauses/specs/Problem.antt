-- What a contract sees of a `Problem`. Own to this project.
use Rattle.std.specs.Prelude.{ℕ, ◌-◌, ◌<◌, ◌≤◌, ◌^◌, List, ◌++◌, length, map, All, filter_map, slice_get}
use Rattle.req_keys.specs.Key.{PositionSet}
use Rattle.clauses.specs.declared.literal.Lit.{Lit}
use Rattle.clauses.specs.Clause.{unit_of}

-- the variables are the numbers below `variables`, those below `features` the features of a model; each requirement
-- has a root, which isn't asserted; the first attempt of a search may learn `allowance` clauses, and `rungs` more attempts
-- may follow
pub record ClauseProblem : Type 0 where
  pub variables : ℕ
  pub features : ℕ
  pub clauses : List (List Lit)
  pub roots : List Lit
  pub allowance : ℕ
  pub rungs : ℕ

-- the literal's variable is below this number
abbrev pub IsBelow : ℕ → Lit → Type 0
IsBelow variables literal = literal.var < variables

pub record IsProblem (problem : ClauseProblem) : Type 0 where
  pub few_variables : problem.variables ≤ 1000000
  pub few_features : problem.features ≤ problem.variables
  pub clauses_below : All (All (IsBelow problem.variables)) problem.clauses
  pub roots_below : All (IsBelow problem.variables) problem.roots
  pub few_roots : length problem.roots ≤ 4096
  pub few_learned : problem.allowance ≤ 2 ^ 40
  pub few_rungs : problem.rungs ≤ 4

-- the roots of the requirements at the key's positions, counted from 1
abbrev pub roots_at : ClauseProblem → PositionSet → List Lit
roots_at problem key = filter_map (λ position. slice_get problem.roots (position - 1)) key.members

-- the clauses that a check of the key is about: those of the problem, and the key's roots as clauses of their own
abbrev pub clauses_with : ClauseProblem → PositionSet → List (List Lit)
clauses_with problem key = problem.clauses ++ map unit_of (roots_at problem key)

-- what a contract sees of a `ClauseBuilder`: the next variable and the clauses so far
pub record Building : Type 0 where
  pub next_variable : ℕ
  pub clauses : List (List Lit)
