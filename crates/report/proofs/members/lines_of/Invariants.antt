-- the lines so far and those of the requirements that are left are those of all
use Rattle.std.proofs.Common.{◌≡◌, ◌+◌, ◌++◌, ◌≤◌, length, drop, filter, not, List, ℕ, map}
use Rattle.std.specs.Prelude.{if◌then◌else◌}
use Rattle.std.specs.List.{flat_map, enumerate_from}
use Rattle.req_keys.specs.Positions.{has}
use Rattle.report.specs.Lines.{member_line, chosen}
use Rattle.report.proofs.members.lines_of.Given as goal

abbrev pub invariant-loop-i : goal.invariant-loop-i
invariant-loop-i l =
    let left =
    filter (λ (member : ℕ × List ℕ). if l.inside then has l.key.members member.0 else not (has l.key.members member.0))
    (enumerate_from (l.i + 1) (map (λ one. one.text) (drop l.i l.requirements))) in
    record {
      few : l.given.count ≤ l.i;
      count : l.given.count + length left ≡ length (chosen l.inside l.requirements l.key);
      lines : l.given.lines ++ flat_map member_line left ≡ flat_map member_line (chosen l.inside l.requirements l.key);
    }
