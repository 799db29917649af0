use Rattle.std.proofs.Common.{◌≡◌, ◌+◌, ◌≤◌, ◌++◌, map, length}
use Rattle.std.specs.Prelude.{flat_map}
use Rattle.std.specs.List.{range_with_len}
use Rattle.clauses.specs.Clause.{positive_of}
use Rattle.count_gates.specs.Table.{or_always, at_least}
use Rattle.count_gates.proofs.Rows.{cell_at}
use Rattle.count_gates.proofs.table.add_row.Given as goal

abbrev pub invariant-loop-j : goal.invariant-loop-j
invariant-loop-j l = record {
  variable : l.out.next_variable ≡ l.initial.out.next_variable + l.j;
  row : l.row ≡ map positive_of (range_with_len l.initial.out.next_variable l.j);
  fewer : l.j ≤ length l.before → or_always l.fewer ≡ at_least l.before l.j;
  clauses : l.out.clauses ≡ l.initial.out.clauses ++ flat_map (cell_at l.initial.out.next_variable l.before l.child) (range_with_len 0 l.j);
}
