use Rattle.std.proofs.Common.{◌≡◌, ◌+◌, ◌++◌, map, drop}
use Rattle.config_reader.specs.Consistent.{formulas_of}
use Rattle.clause_form.specs.ClauseForm.{asserted}
use Rattle.clause_form.specs.Parts.{clauses_from, size_of}
use Rattle.clause_form.proofs.problem.add_musts.Given as goal

abbrev pub invariant-loop-must : goal.invariant-loop-must
invariant-loop-must l =
    let left = map asserted (formulas_of (drop l.must-index l.musts)) in
    let all = map asserted (formulas_of l.musts) in
    let first = l.initial.out.next_variable in record {
      clauses : l.out.clauses ++ clauses_from l.out.next_variable left ≡ l.initial.out.clauses ++ clauses_from first all;
      variable : l.out.next_variable + size_of left ≡ first + size_of all;
    }
