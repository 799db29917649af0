use Rattle.std.proofs.Common.{◌≡◌, ◌+◌, ◌≤◌, ◌++◌, map, drop}
use Rattle.clause_form.specs.Groups.{group_part}
use Rattle.clause_form.specs.Parts.{clauses_from, size_of}
use Rattle.clause_form.proofs.groups.add_groups.Given as goal

abbrev pub invariant-loop-group : goal.invariant-loop-group
invariant-loop-group l =
    let left = map (group_part l.parent) (drop l.group-index l.groups) in
    let all = map (group_part l.parent) l.groups in
    let first = l.initial.out.next_variable in record {
      clauses : l.out.clauses ++ clauses_from l.out.next_variable left ≡ l.initial.out.clauses ++ clauses_from first all;
      variable : l.out.next_variable + size_of left ≡ first + size_of all;
      more : first ≤ l.out.next_variable;
    }
