use Rattle.std.proofs.Common.{◌≡◌, map}
use Rattle.std.specs.List.{range_with_len}
use Rattle.req_keys.specs.Words.{word_of}
use Rattle.check_table.proofs.table.CheckTable.post.Given as goal

abbrev pub invariant-loop-j : goal.invariant-loop-j
invariant-loop-j l = (l.main.table ≡ l.initial.main.table) × (l.main.sees ≡ record l.initial.main.sees { written = map (word_of l.key) (range_with_len 0 l.j) })
