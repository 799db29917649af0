use Rattle.std.proofs.Common.{take}
use Rattle.std.specs.Prelude.{Contains}
use Rattle.clauses.specs.declared.literal.Lit.{Lit}
use Rattle.clauses.specs.Clause.{negation}
use Rattle.propagation.proofs.placing.late_in.Given as goal

abbrev pub invariant-loop-literal : goal.invariant-loop-literal
invariant-loop-literal l = (literal : Lit) → Contains (take l.literal-index l.clause) literal → Contains (take l.end l.trail.literals) (negation literal) → Contains (take l.start l.trail.literals) (negation literal)
