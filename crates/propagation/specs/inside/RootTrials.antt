-- The roots of a key while they are assumed one by one.
use Rattle.std.specs.Prelude.{◌≡◌, ◌≢◌, ◌-◌, ◌≤◌, ℕ, Bool, false, true, IsTrue, List, [], filter, filter_map, length, slice_get, take, Some}
use Rattle.std.specs.List.{range_with_len}
use Rattle.req_keys.specs.Key.{PositionSet}
use Rattle.req_keys.specs.Positions.{has}
use Rattle.clauses.specs.declared.literal.Lit.{Lit}
use Rattle.clauses.specs.Closure.{clash}
use Rattle.clauses.specs.Problem.{ClauseProblem, clauses_with}
use Rattle.propagation.specs.Propagation.{Propagation}
use Rattle.propagation.specs.Roots.{AreRooted}
use Rattle.propagation.specs.declared.roots.Common.{Common}

-- all are assumed, unless they clash with the clauses
abbrev pub AreTried : ClauseProblem → PositionSet → Propagation → Bool → Type 0
AreTried problem key at false = IsTrue (clash (clauses_with problem key)) × (at.problem ≡ problem)
AreTried problem key at true = AreRooted problem key at

-- the members among the first so many positions
abbrev pub members_to : PositionSet → ℕ → List ℕ
members_to key place = filter (has key.members) (range_with_len 1 place)

-- their roots
abbrev pub roots_to : ClauseProblem → PositionSet → ℕ → List Lit
roots_to problem key place = filter_map (λ position. slice_get problem.roots (position - 1)) (members_to key place)

-- these are assumed, and nothing is learned
pub record AreRootsTo (problem : ClauseProblem) (key : PositionSet) (place : ℕ) (at : Propagation) : Type 0 where
  pub within : place ≤ key.n
  pub is : at ≡ record { problem = problem; assumed = roots_to problem key place; learned = [] }
  pub counted : length at.assumed ≡ length (members_to key place)

-- the first of the literals are the roots of the members up to a position
pub record IsCommon (problem : ClauseProblem) (key : PositionSet) (assumed : List Lit) (common : Common) : Type 0 where
  pub within : common.place ≤ key.n
  pub most : common.count ≤ length assumed
  pub are : take common.count assumed ≡ roots_to problem key common.place
  pub counted : common.count ≡ length (members_to key common.place)

-- whether the literal with this number is this one
abbrev pub IsAt : List Lit → ℕ → Lit → Bool → Type 0
IsAt literals number literal true = slice_get literals number ≡ Some literal
IsAt literals number literal false = slice_get literals number ≢ Some literal
