-- the parts so far
use Rattle.std.proofs.Common.{◌≡◌, ◌++◌}
use Rattle.std.specs.List.{filter, flat_map, range_with_len}
use Rattle.req_keys.specs.Positions.{has}
use Rattle.certificate.specs.inside.Parts.{need_lines}
use Rattle.certificate.proofs.searched.push_all_needs.Given as goal

abbrev pub invariant-loop-i : goal.invariant-loop-i
invariant-loop-i l = record {
  same : l.searcher ≡ l.fn.searcher;
  text : l.text ≡ l.fn.text ++ flat_map (need_lines l.model l.fn.searcher l.conflict) (filter (has l.conflict.members) (range_with_len 1 l.i));
}
