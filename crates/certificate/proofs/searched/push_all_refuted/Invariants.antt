-- the parts so far
use Rattle.std.proofs.Common.{◌≡◌, ◌++◌, not}
use Rattle.std.specs.List.{filter, flat_map, range_with_len}
use Rattle.req_keys.specs.Positions.{has}
use Rattle.certificate.specs.inside.Parts.{refuted_lines}
use Rattle.certificate.proofs.searched.push_all_refuted.Given as goal

abbrev pub invariant-loop-i : goal.invariant-loop-i
invariant-loop-i l = record {
  same : l.searcher ≡ l.fn.searcher;
  text : l.text ≡ l.fn.text ++ flat_map (refuted_lines l.fn.searcher l.kept) (filter (λ i. not (has l.kept.members i)) (range_with_len 1 l.i));
}
