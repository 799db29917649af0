use Rattle.std.proofs.Common.{◌≡◌, ◌+◌, ◌*◌, ◌≤◌, length}
use Rattle.std.specs.Prelude.{vec_capacity}
use Rattle.propagation.specs.inside.Sorting.{AreListed, IsSorted}
use Rattle.propagation.proofs.watches.Watches.set_apart.Given as goal

abbrev pub invariant-loop-slot : goal.invariant-loop-slot
invariant-loop-slot l = record {
  variables : l.self-inside.variables ≡ l.initial.self-inside.variables;
  watched : l.self-inside.watched ≡ l.initial.self-inside.watched;
  sorted : IsSorted l.clauses l.self-inside.variables l.self-inside.watched.items l.slot (length l.others.items) l.self-inside.heads.items l.self-inside.next.items;
  listed : AreListed l.clauses l.self-inside.watched.items l.slot (record { starts = l.starts.items; others = l.others.items });
  others_room : length l.self-inside.watched.items ≤ vec_capacity l.others;
  starts_room : 2 * l.self-inside.variables + 1 ≤ vec_capacity l.starts;
}
