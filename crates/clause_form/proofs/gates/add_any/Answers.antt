use Rattle.std.proofs.Common.{rules}
use Rattle.clauses.specs.Clause.{positive_of}
use Rattle.clause_form.proofs.GatesLaws.{any-added}
use Rattle.clause_form.proofs.gates.add_any.Goals as goal

pub returns-clause-clauses : goal.returns-clause-clauses
returns-clause-clauses c =
    any-added (positive_of c.args.out.now.next_variable) c.args.literals.now c.args.out.now.clauses c.add_pairs.new.out.clauses c.add.new.self.clauses (search rules) (search rules)
