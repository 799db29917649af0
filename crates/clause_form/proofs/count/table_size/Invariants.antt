use Rattle.std.proofs.Common.{◌≡◌}
use Rattle.count_gates.specs.Table.{table_size as size_of_table}
use Rattle.clause_form.specs.Parts.{capped}
use Rattle.clause_form.proofs.count.table_size.Given as goal

abbrev pub invariant-loop-i : goal.invariant-loop-i
invariant-loop-i l = l.count ≡ capped (size_of_table l.i l.upto)
