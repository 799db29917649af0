-- What a kept propagator knows of a derivation so far.
use Rattle.std.specs.Prelude.{◌≡◌, ◌≤◌, ℕ, IsFalse, IsTrue, ◌++◌, length}
use Rattle.clauses.specs.Closure.{clash}
use Rattle.clauses.specs.Problem.{ClauseProblem, clauses_with, roots_at}
use Rattle.propagation.specs.Propagation.{Propagation, propagated}
use Rattle.req_keys.specs.Key.{PositionSet}

-- all roots of the key are assumed, unless some of them clash with the clauses and the lines, and so all do
pub record IsChecked (problem : ClauseProblem) (key : PositionSet) (roots : ℕ) (at : Propagation) : Type 0 where
  pub about : at.problem ≡ problem
  pub sized : key.n ≡ length problem.roots
  pub counted : length at.assumed ≡ roots
  pub few : roots ≤ 4096
  pub all : IsFalse (clash (propagated at)) → at.assumed ≡ roots_at problem key
  pub some : IsTrue (clash (propagated at)) → IsTrue (clash (clauses_with problem key ++ at.learned))
