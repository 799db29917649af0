use Rattle.std.proofs.Common.{◌≡◌, not, map, take}
use Rattle.clauses.specs.Clause.{literal_with}
use Rattle.solver.proofs.search.some_without.Given as goal

abbrev pub invariant-loop-variable : goal.invariant-loop-variable
invariant-loop-variable l = l.clause.items ≡ map (literal_with (not l.value)) (take l.variable-index l.variables)
