use Rattle.std.proofs.Common.{◌≡◌, ◌+◌, ◌++◌, drop}
use Rattle.count_gates.specs.Table.{row_literals, rows_from, table_clauses, table_size}
use Rattle.count_gates.proofs.table.count_table.Given as goal

abbrev pub invariant-loop-child : goal.invariant-loop-child
invariant-loop-child l = record {
  row : l.last ≡ row_literals l.initial.out.next_variable l.upto l.child-index;
  variable : l.out.next_variable ≡ l.initial.out.next_variable + table_size l.child-index l.upto;
  clauses : l.out.clauses ++ rows_from l.initial.out.next_variable l.upto l.child-index (drop l.child-index l.children) ≡ l.initial.out.clauses ++ table_clauses l.initial.out.next_variable l.upto l.children;
}
