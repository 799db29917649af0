use Rattle.std.proofs.Common.{◌≡◌, map, take}
use Rattle.clauses.specs.Clause.{positive_of}
use Rattle.clause_form.proofs.groups.literals_of.Given as goal

abbrev pub invariant-loop-var : goal.invariant-loop-var
invariant-loop-var l = l.literals ≡ map positive_of (take l.var-index l.variables)
