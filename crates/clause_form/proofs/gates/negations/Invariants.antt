use Rattle.std.proofs.Common.{◌≡◌, map, take}
use Rattle.clauses.specs.Clause.{negation}
use Rattle.clause_form.proofs.gates.negations.Given as goal

abbrev pub invariant-loop-literal : goal.invariant-loop-literal
invariant-loop-literal l = l.negations ≡ map negation (take l.literal-index l.literals)
