use Rattle.std.proofs.Common.{◌≡◌, map}
use Rattle.std.specs.List.{range_with_len}
use Rattle.clauses.specs.Clause.{has, positive_of}
use Rattle.clauses.specs.Closure.{closure}
use Rattle.solver.specs.inside.Searching.{all_under}
use Rattle.solver.proofs.search.Search.values.Given as goal

abbrev pub invariant-loop-variable : goal.invariant-loop-variable
invariant-loop-variable l = l.values ≡ map (λ v. has (closure (all_under l.self)) (positive_of v)) (range_with_len 0 l.variable)
