use Rattle.std.proofs.Common.{◌≡◌, ◌+◌, ◌≤◌, ◌++◌, drop}
use Rattle.clause_form.specs.ClauseForm.{group_parts}
use Rattle.clause_form.specs.Parts.{clauses_from, size_of}
use Rattle.clause_form.proofs.Walks.{groups_from}
use Rattle.clause_form.proofs.problem.add_features.Given as goal

abbrev pub invariant-loop-i : goal.invariant-loop-i
invariant-loop-i l =
    let left = groups_from l.i (drop l.i l.features) in
    let all = group_parts l.features in
    let first = l.initial.out.next_variable in record {
      clauses : l.out.clauses ++ clauses_from l.out.next_variable left ≡ l.initial.out.clauses ++ clauses_from first all;
      variable : l.out.next_variable + size_of left ≡ first + size_of all;
      more : first ≤ l.out.next_variable;
    }
