use Rattle.std.proofs.Common.{◌≡◌, ◌+◌, ◌-◌, ◌++◌, ℕ, List, not}
use Rattle.std.specs.Prelude.{filter}
use Rattle.std.specs.List.{flat_map, range_with_len}
use Rattle.req_keys.specs.Positions.{has}
use Rattle.certificate.specs.Judging.{Awaited, Subject, count_of, refuted_parts}
use Rattle.certificate.specs.Sets.{given_up}
use Rattle.certificate.specs.inside.Ahead.{judged_at}
use Rattle.certificate.proofs.explained.all_refuted.Given as goal

abbrev pub invariant-loop-place : goal.invariant-loop-place
invariant-loop-place l = record {
  problem : l.checker.problem ≡ l.fn.checker.problem;
  so_far : (about : Subject) → about.problem ≡ l.fn.checker.problem → count_of about ≡ l.fn.kept.n → (rest : List Awaited)
      → judged_at about (flat_map (refuted_parts about l.fn.kept.members) (given_up l.fn.kept.n l.fn.kept.members) ++ rest) l.fn.lines
      ≡ judged_at about (flat_map (refuted_parts about l.fn.kept.members) (filter (λ (i : ℕ). not (has l.fn.kept.members i)) (range_with_len (l.place + 1) (l.fn.kept.n - l.place))) ++ rest) l.lines;
}
