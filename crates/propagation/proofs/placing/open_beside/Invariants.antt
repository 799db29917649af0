use Rattle.std.proofs.Common.{◌≡◌, ◌⊎◌, Some, take}
use Rattle.std.specs.Prelude.{Contains}
use Rattle.clauses.specs.declared.literal.Lit.{Lit}
use Rattle.clauses.specs.Clause.{negation}
use Rattle.propagation.proofs.placing.open_beside.Given as goal

abbrev pub invariant-loop-literal : goal.invariant-loop-literal
invariant-loop-literal l = (literal : Lit) → Contains (take l.literal-index l.clause) literal → (l.but ≡ Some literal) ⊎ Contains (take l.end l.trail.literals) (negation literal)
