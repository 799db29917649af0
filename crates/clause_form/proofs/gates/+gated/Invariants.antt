use Rattle.std.proofs.Common.{◌≡◌, ◌+◌, ◌++◌, map, drop}
use Rattle.clause_form.specs.Gates.{gates, gates_of, literals_from}
use Rattle.clause_form.specs.Parts.{clauses_from, size_of}
use Rattle.clause_form.proofs.gates.+gated.Given as goal

abbrev pub invariant-add_formulas-loop-formula : goal.invariant-add_formulas-loop-formula
invariant-add_formulas-loop-formula l =
    let left = map gates_of (drop l.formula-index l.formulas) in
    let all = map gates_of l.formulas in
    let first = l.initial.out.next_variable in record {
      literals : l.literals ++ literals_from l.out.next_variable left ≡ literals_from first all;
      clauses : l.out.clauses ++ clauses_from l.out.next_variable (map gates left) ≡ l.initial.out.clauses ++ clauses_from first (map gates all);
      variable : l.out.next_variable + size_of (map gates left) ≡ first + size_of (map gates all);
    }
