-- Roots that are assumed at the beginning of a derivation.
use Rattle.std.specs.Prelude.{◌≡◌, ℕ, []}
use Rattle.clauses.specs.Problem.{ClauseProblem}
use Rattle.propagation.specs.Propagation.{Propagation}
use Rattle.req_keys.specs.Key.{PositionSet}
use Rattle.derivation_check.specs.inside.Checked.{IsChecked}

-- so many roots of the key are assumed, and nothing is learned
pub record AreAssumedFor (problem : ClauseProblem) (key : PositionSet) (roots : ℕ) (at : Propagation) : Type 0 where
  pub checked : IsChecked problem key roots at
  pub learned : at.learned ≡ []
