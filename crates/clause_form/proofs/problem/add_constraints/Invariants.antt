use Rattle.std.proofs.Common.{◌≡◌, ◌+◌, ◌++◌, map, drop}
use Rattle.clause_form.specs.ClauseForm.{asserted}
use Rattle.clause_form.specs.Parts.{clauses_from, size_of}
use Rattle.clause_form.proofs.problem.add_constraints.Given as goal

abbrev pub invariant-loop-formula : goal.invariant-loop-formula
invariant-loop-formula l =
    let left = map asserted (drop l.formula-index l.constraints) in
    let all = map asserted l.constraints in
    let first = l.initial.out.next_variable in record {
      clauses : l.out.clauses ++ clauses_from l.out.next_variable left ≡ l.initial.out.clauses ++ clauses_from first all;
      variable : l.out.next_variable + size_of left ≡ first + size_of all;
    }
