use Rattle.std.proofs.Common.{◌≡◌, length, get_or}
use Rattle.std.specs.Prelude.{vec_capacity}
use Rattle.propagation.proofs.ChainLaws.{chain_count}
use Rattle.propagation.proofs.SortLaws.{IsSorting}
use Rattle.propagation.proofs.sorting.sort_chain.Given as goal

abbrev pub invariant-loop-heads : goal.invariant-loop-heads
invariant-loop-heads l = record {
  room : vec_capacity l.others ≡ vec_capacity l.initial.others;
  sorting : IsSorting l.clauses l.variables l.watched l.slot l.initial.others.items l.heads l.next l.others.items;
}

abbrev pub decreases-loop-heads : goal.decreases-loop-heads
decreases-loop-heads l = chain_count l.next (length l.next) (get_or l.heads l.slot 0)
