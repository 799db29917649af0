use Rattle.std.proofs.Common.{◌≡◌, false, take}
use Rattle.std.specs.List.{list_any}
use Rattle.clauses.specs.Clause.{is_true_in}
use Rattle.clauses.proofs.literal.is_clause_satisfied.Given as goal

abbrev pub invariant-loop-literal : goal.invariant-loop-literal
invariant-loop-literal l = list_any (is_true_in l.assignment) (take l.literal-index l.literal-items) ≡ false
