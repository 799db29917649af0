use Rattle.std.proofs.Common.{◌≡◌, ◌+◌, ◌++◌, map, drop}
use Rattle.config_reader.specs.Consistent.{formulas_of}
use Rattle.clause_form.specs.Gates.{gates, gates_of, literals_from}
use Rattle.clause_form.specs.Parts.{clauses_from, size_of}
use Rattle.clause_form.proofs.problem.add_requirements.Given as goal

abbrev pub invariant-loop-requirement : goal.invariant-loop-requirement
invariant-loop-requirement l =
    let left = map gates_of (formulas_of (drop l.requirement-index l.requirements)) in
    let all = map gates_of (formulas_of l.requirements) in
    let first = l.initial.out.next_variable in record {
      roots : l.roots ++ literals_from l.out.next_variable left ≡ literals_from first all;
      clauses : l.out.clauses ++ clauses_from l.out.next_variable (map gates left) ≡ l.initial.out.clauses ++ clauses_from first (map gates all);
      variable : l.out.next_variable + size_of (map gates left) ≡ first + size_of (map gates all);
    }
