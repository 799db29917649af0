use Rattle.std.proofs.Common.{◌≡◌, [], ◌∷◌, ◌++◌, map, take}
use Rattle.clause_form.proofs.gates.add_pairs.Given as goal

abbrev pub invariant-loop-other : goal.invariant-loop-other
invariant-loop-other l = record {
  clauses : l.out.clauses ≡ l.initial.out.clauses ++ map (λ other. l.first ∷ other ∷ []) (take l.other-index l.others);
  variable : l.out.next_variable ≡ l.initial.out.next_variable;
}
