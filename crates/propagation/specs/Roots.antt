-- The roots of a key as assumed literals.
use Rattle.std.specs.Prelude.{◌≡◌, ◌≤◌, Bool, false, true, IsFalse, IsTrue, [], length, Option, Some, None}
use Rattle.req_keys.specs.Key.{PositionSet}
use Rattle.clauses.specs.Closure.{clash}
use Rattle.clauses.specs.Problem.{ClauseProblem, clauses_with, roots_at}
use Rattle.propagation.specs.Propagation.{Propagation, propagated}

-- the roots of the key are assumed, one for each member, nothing is learned, and nothing clashes
pub record AreRooted (problem : ClauseProblem) (key : PositionSet) (at : Propagation) : Type 0 where
  pub is : at ≡ record { problem = problem; assumed = roots_at problem key; learned = [] }
  pub counted : length at.assumed ≡ length key.members
  pub few : length at.assumed ≤ 4096
  pub no_clash : IsFalse (clash (propagated at))

-- there is such a propagation, unless the roots clash with the clauses
abbrev pub IsRooted : ClauseProblem → PositionSet → Option Propagation → Type 0
IsRooted problem key None = IsTrue (clash (clauses_with problem key))
IsRooted problem key (Some at) = AreRooted problem key at

-- the roots of the key are assumed, unless they clash with the clauses; then nothing is
abbrev pub AreAsked : ClauseProblem → PositionSet → Propagation → Bool → Type 0
AreAsked problem key at false = IsTrue (clash (clauses_with problem key)) × (at ≡ record { problem = problem; assumed = []; learned = [] })
AreAsked problem key at true = AreRooted problem key at
