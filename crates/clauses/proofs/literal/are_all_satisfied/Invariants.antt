use Rattle.std.proofs.Common.{◌≡◌, true, take}
use Rattle.std.specs.List.{list_all}
use Rattle.clauses.specs.Clause.{is_satisfied}
use Rattle.clauses.proofs.literal.are_all_satisfied.Given as goal

abbrev pub invariant-loop-clause : goal.invariant-loop-clause
invariant-loop-clause l = list_all (is_satisfied l.assignment) (take l.clause-index l.clauses) ≡ true
