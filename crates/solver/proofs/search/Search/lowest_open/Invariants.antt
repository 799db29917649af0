use Rattle.std.proofs.Common.{◌≡◌, ◌<◌, ℕ, false}
use Rattle.solver.specs.inside.Searching.{all_under, is_open}
use Rattle.solver.proofs.search.Search.lowest_open.Given as goal

abbrev pub invariant-loop-variable : goal.invariant-loop-variable
invariant-loop-variable l = (v : ℕ) → v < l.variable → is_open (all_under l.self) v ≡ false
