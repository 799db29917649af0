-- What stands while decisions are tried: assumed literals that stay, and behind them variables that are assumed to have
-- the first value.
use Rattle.std.specs.Prelude.{◌≡◌, ◌<◌, ◌≤◌, ℕ, Bool, false, true, IsTrue, All, List, [], ◌++◌, drop, filter, length, map, nat_lt}
use Rattle.lists.specs.Distinct.{IsDistinct}
use Rattle.req_keys.specs.Key.{PositionSet}
use Rattle.clauses.specs.declared.literal.Lit.{Lit}
use Rattle.clauses.specs.Clause.{literal_with}
use Rattle.clauses.specs.Closure.{clash}
use Rattle.clauses.specs.Problem.{ClauseProblem, IsProblem, clauses_with, roots_at}
use Rattle.propagation.specs.Propagation.{Propagation, all_of}

pub record Trying : Type 0 where
  pub problem : ClauseProblem
  pub learned : List (List Lit)
  pub fixed : List Lit
  pub tried : List ℕ
  pub first : Bool

-- the clauses with these variables assumed to have the first value
abbrev pub with_tried : Trying → List ℕ → List (List Lit)
with_tried at variables = all_of at.problem.clauses at.learned (at.fixed ++ map (literal_with at.first) variables)

-- those of the numbers that are variables of the problem
abbrev pub variables_in : ClauseProblem → List ℕ → List ℕ
variables_in problem numbers = filter (λ number. nat_lt number problem.variables) numbers

-- a set clashes where its variables can't all have the first value
abbrev pub Clashes : Trying → List ℕ → Type 0
Clashes at set = IsTrue (clash (with_tried at (variables_in at.problem set)))

-- what two states have in common, whatever was tried in between
abbrev pub SameButTried : Trying → Trying → Type 0
SameButTried a b = (b.problem ≡ a.problem) × (b.learned ≡ a.learned) × (b.fixed ≡ a.fixed) × (b.first ≡ a.first)

-- at the start nothing is learned or tried; the roots of the key stay, unless they clash with the clauses
abbrev pub HasStarted : ClauseProblem → PositionSet → Bool → Trying → Bool → Type 0
HasStarted problem key first at false = IsTrue (clash (clauses_with problem key)) × (at.learned ≡ []) × (at.tried ≡ [])
HasStarted problem key first at true = at ≡ record { problem = problem; learned = []; fixed = roots_at problem key; tried = []; first = first }

-- the variables of the literals that are assumed behind those that stay
abbrev pub tried_of : Propagation → ℕ → List ℕ
tried_of at fixed = map (λ literal. literal.var) (drop fixed at.assumed)

-- what a `Trial` keeps: behind the literals that stay, distinct variables are assumed to have the first value
pub record IsTrial (problem : ClauseProblem) (first : Bool) (at : Propagation) (fixed : ℕ) : Type 0 where
  pub same_problem : at.problem ≡ problem
  pub lawful : IsProblem problem
  pub within : fixed ≤ length at.assumed
  pub few : fixed ≤ 4096
  pub valued : drop fixed at.assumed ≡ map (literal_with first) (tried_of at fixed)
  pub distinct : IsDistinct (tried_of at fixed)
  pub below : All (λ variable. variable < problem.variables) (tried_of at fixed)
