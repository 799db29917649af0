use Rattle.clauses.proofs.SatisfiedLaws.{are_satisfied-iff}
use Rattle.clauses.proofs.problem.Problem.satisfies.Goals as goal

pub returns-clause-each_clause : goal.returns-clause-each_clause
returns-clause-each_clause c = rw (c.are_all_satisfied.ensures, c.as_slice.ensures, ← c.self.view_is) (are_satisfied-iff c.args.assignment.now c.self.inside.clauses)
