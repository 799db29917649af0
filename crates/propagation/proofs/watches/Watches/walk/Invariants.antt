use Rattle.std.proofs.Common.{◌≡◌, length}
use Rattle.propagation.proofs.ChainLaws.{chain_count}
use Rattle.propagation.proofs.WalkLaws.{IsWalk}
use Rattle.propagation.proofs.watches.Watches.walk.Given as goal

abbrev pub invariant-loop-entry : goal.invariant-loop-entry
invariant-loop-entry l = record {
  same : l.self-inside.variables ≡ l.initial.self-inside.variables;
  pairs : l.self-inside.pairs ≡ l.initial.self-inside.pairs;
  walk : IsWalk l.clauses l.fn.literal l.initial.self-inside.variables l.initial.self-inside.pairs l.initial.self-inside.watched.items l.initial.trail l.self-inside.heads.items l.self-inside.next.items l.self-inside.watched.items l.trail l.last l.entry;
}

abbrev pub decreases-loop-entry : goal.decreases-loop-entry
decreases-loop-entry l = chain_count l.self-inside.next.items (length l.self-inside.next.items) l.entry
