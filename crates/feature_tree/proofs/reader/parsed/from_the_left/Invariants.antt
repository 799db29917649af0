use Rattle.std.proofs.Common.{◌≡◌, ◌≤◌, All}
use Rattle.feature_tree.specs.Grammar.{from_the_left}
use Rattle.feature_tree.specs.inside.Descent.{pair_of, IsLow}
use Rattle.feature_tree.proofs.reader.parsed.from_the_left.Given as goal

abbrev pub invariant-loop-next : goal.invariant-loop-next
invariant-loop-next l = record {
  whole : from_the_left (pair_of l.level) l.whole l.next-iterator.rest.items ≡ from_the_left (pair_of l.level) l.fn.first l.fn.others.items;
  low : l.whole.height ≤ l.room;
  rest_is_low : All (IsLow l.room) l.next-iterator.rest.items;
}
