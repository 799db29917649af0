-- Which requirements can be met together.
use Rattle.std.specs.Prelude.{◌≡◌, ◌<◌, ℕ, Bool, false, IsTrue, List, length, slice_index_or}
use Rattle.req_keys.specs.Key.{PositionSet}
use Rattle.req_keys.specs.Wanting.{key_over}
use Rattle.clauses.specs.Clause.{are_satisfied}
use Rattle.clauses.specs.Problem.{ClauseProblem, clauses_with}

-- some assignment, a value for each variable, makes the problem's clauses and the key's roots true
abbrev pub IsMet : ClauseProblem → PositionSet → Type 0
IsMet problem key = (values : List Bool) × (length values ≡ problem.variables) × IsTrue (are_satisfied values (clauses_with problem key))

-- the requirements at these positions, counted from 1, can be met together
abbrev pub AreMet : ClauseProblem → List ℕ → Type 0
AreMet problem positions = IsMet problem (key_over (length problem.roots) positions)

-- two assignments have the same values of the variables below the bound
abbrev pub AgreeBelow : ℕ → List Bool → List Bool → Type 0
AgreeBelow bound a b = (var : ℕ) → var < bound → slice_index_or a var false ≡ slice_index_or b var false
