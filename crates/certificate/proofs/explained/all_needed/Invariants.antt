use Rattle.std.proofs.Common.{◌≡◌, ◌++◌, List, drop, length}
use Rattle.std.specs.List.{flat_map}
use Rattle.clauses.specs.Problem.{ClauseProblem}
use Rattle.certificate.specs.Judging.{Awaited, Subject, need_parts}
use Rattle.certificate.specs.inside.Ahead.{judged_at}
use Rattle.certificate.proofs.explained.all_needed.Given as goal

abbrev pub invariant-loop-member : goal.invariant-loop-member
invariant-loop-member l = record {
  sized : length l.buffers.set.items ≡ length l.fn.buffers.set.items;
  so_far : (problem : ClauseProblem) (rest : List Awaited) → let about : Subject = record { model = l.fn.model; config = l.fn.config; problem = problem } in
      judged_at about (flat_map (need_parts about l.fn.conflict.members) l.fn.conflict.members ++ rest) l.fn.lines
      ≡ judged_at about (flat_map (need_parts about l.fn.conflict.members) (drop l.member-index l.member-items) ++ rest) l.lines;
}
