-- What a search knows between two turns, and what a turn comes to.
use Rattle.std.specs.Prelude.{◌≡◌, ◌⊎◌, ◌<◌, ◌≤◌, ℕ, Bool, false, true, not, ◌&&◌, IsFalse, IsTrue, All, List, [], ◌∷◌, ◌++◌, length, map, Option, Some, None}
use Rattle.pref_sets.specs.Preferred.{IsDistinct}
use Rattle.req_keys.specs.Key.{PositionSet}
use Rattle.clauses.specs.declared.literal.Lit.{Lit}
use Rattle.clauses.specs.Clause.{has, negative_of, positive_of, unit_of}
use Rattle.clauses.specs.Closure.{closure, clash}
use Rattle.clauses.specs.Problem.{ClauseProblem, clauses_with, roots_at}
use Rattle.clauses.specs.Search.{SearchAnswer, Sat, Unsat, Limit, Standing, Turn, GoesOn, Ends, turn, under, values_of}
use Rattle.solver.specs.declared.search.Ending.{Ending}
use Rattle.solver.specs.declared.search.Ending.TheVariants as ending
use Rattle.solver.specs.inside.Trials.{Trying, with_tried}

-- what is tried, the decisions, and the allowance of the attempt
pub record Searching : Type 0 where
  pub trial : Trying
  pub decisions : List ℕ
  pub allowance : ℕ

-- what stands between two turns
abbrev pub standing : Searching → Standing
standing at = record { learned = at.trial.learned; decisions = at.decisions }

-- what the search is about: the clauses, and the literals that stay as clauses of their own
abbrev pub clauses_of : Trying → List (List Lit)
clauses_of at = at.problem.clauses ++ map unit_of at.fixed

-- what is propagated
abbrev pub all_under : Searching → List (List Lit)
all_under at = under at.trial.first (clauses_of at.trial) (standing at)

-- the turn that is due
abbrev pub turn_of : Searching → Turn
turn_of at = turn at.trial.first (clauses_of at.trial) at.trial.problem.variables at.allowance (standing at)

-- the decisions are tried, up to the first that clashes
abbrev pub AreShown : Trying → List ℕ → Type 0
AreShown trial decisions = (untried : List ℕ) × (decisions ≡ trial.tried ++ untried) × ((untried ≡ []) ⊎ IsTrue (clash (with_tried trial trial.tried)))

abbrev pub IsShown : Searching → Type 0
IsShown at = AreShown at.trial at.decisions

-- the answer of a search that ends so
abbrev pub ended : Searching → Ending → SearchAnswer
ended at ending.Sat = Sat (values_of at.trial.problem.variables (closure (all_under at)))
ended at ending.Unsat = Unsat (at.trial.learned ++ [] ∷ [])
ended at ending.Limit = Limit

-- a turn goes on to what stands now, or ends and changes nothing
abbrev pub IsTurn : Searching → Searching → Option Ending → Type 0
IsTurn before now None =
    (turn_of before ≡ GoesOn (standing now)) × (now.trial.problem ≡ before.trial.problem) × (now.trial.fixed ≡ before.trial.fixed)
    × (now.trial.first ≡ before.trial.first) × (now.allowance ≡ before.allowance) × IsShown now
IsTurn before now (Some end) = (turn_of before ≡ Ends (ended before end)) × (now ≡ before) × ((end ≡ ending.Sat) → IsFalse (clash (all_under before)))

-- where a search has ended so, what stands is shown, and with Sat nothing clashes
abbrev pub IsAtEnd : Searching → Ending → Type 0
IsAtEnd at end = IsShown at × ((end ≡ ending.Sat) → IsFalse (clash (all_under at)))

-- at the start nothing is learned or decided; the answer is false where the roots of the key clash with the clauses
abbrev pub HasBegun : ClauseProblem → PositionSet → Bool → ℕ → Searching → Bool → Type 0
HasBegun problem key first allowance at false = IsTrue (clash (clauses_with problem key)) × (at.trial.learned ≡ []) × (at.trial.tried ≡ []) × (at.decisions ≡ [])
HasBegun problem key first allowance at true =
    at ≡ record { trial = record { problem = problem; learned = []; fixed = roots_at problem key; tried = []; first = first }; decisions = []; allowance = allowance }

-- whether the closure has no literal of the variable
abbrev pub is_open : List (List Lit) → ℕ → Bool
is_open clauses variable = not (has (closure clauses) (positive_of variable)) && not (has (closure clauses) (negative_of variable))

-- no variable below this number is open
abbrev pub AreSettled : Searching → ℕ → Type 0
AreSettled at settled = (variable : ℕ) → variable < settled → is_open (all_under at) variable ≡ false

-- what a `Search` keeps: the decisions are distinct variables, no more is learned than is allowed, and below some number
-- no variable is open
pub record IsSearch (trial : Trying) (decisions : List ℕ) (allowance settled : ℕ) : Type 0 where
  pub allowed : length trial.learned ≤ allowance
  pub distinct : IsDistinct decisions
  pub below : All (λ variable. variable < trial.problem.variables) decisions
  pub settled_below : AreSettled (record { trial = trial; decisions = decisions; allowance = allowance }) settled
