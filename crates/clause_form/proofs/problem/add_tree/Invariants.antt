use Rattle.std.proofs.Common.{◌≡◌, ◌++◌, drop}
use Rattle.clause_form.specs.ClauseForm.{tree_clauses}
use Rattle.clause_form.proofs.Walks.{parents_from}
use Rattle.clause_form.proofs.problem.add_tree.Given as goal

abbrev pub invariant-loop-i : goal.invariant-loop-i
invariant-loop-i l = record {
  clauses : l.out.clauses ++ parents_from l.i (drop l.i l.features) ≡ l.fn.out.clauses ++ tree_clauses l.features;
  variable : l.out.next_variable ≡ l.fn.out.next_variable;
}
