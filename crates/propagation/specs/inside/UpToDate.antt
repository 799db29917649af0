-- What a `Propagator` keeps beside what a contract sees.
use Rattle.std.specs.Prelude.{◌≡◌, ◌+◌, ◌≤◌, ℕ, Bool, true, false, All, List, length}
use Rattle.clauses.specs.declared.literal.Lit.{Lit}
use Rattle.clauses.specs.Problem.{IsBelow, IsProblem}
use Rattle.propagation.specs.Propagation.{Propagation}
use Rattle.propagation.specs.declared.state.State.{State}
use Rattle.propagation.specs.declared.state.State.TheVariants as state
use Rattle.propagation.specs.inside.Levels.{HasState}
use Rattle.propagation.specs.inside.Trails.{Trailing}
use Rattle.propagation.specs.inside.Watching.{Watching}

-- The trail has its levels, and each clause is watched as they ask: of two watched literals, where the negation of one is
-- on the trail the other is, and came under no later mark, except at the last level where it clashes. There is room for
-- as many assumed literals as the caller may have.
pub record IsUpToDate (at : Propagation) (flat : List (List Lit)) (trail : Trailing) (own more : Watching) (marks : List ℕ) (base : ℕ) (now : State) (room marks_room : ℕ) : Type 0 where
  pub problem : IsProblem at.problem
  pub assumed_below : All (IsBelow at.problem.variables) at.assumed
  pub learned_below : All (All (IsBelow at.problem.variables)) at.learned
  pub in_row : flat ≡ at.learned
  pub few : length at.assumed ≤ at.problem.variables + 4096
  pub reserved : at.problem.variables + 4096 ≤ room
  pub marks_reserved : at.problem.variables + 4096 ≤ marks_room
  pub standing : HasState at.problem at.learned at.assumed trail own more marks base now

-- whether nothing clashes
abbrev pub is_rest : State → Bool
is_rest state.Rests = true
is_rest state.Clashes = false
is_rest state.Lost = false
is_rest state.Dead = false
