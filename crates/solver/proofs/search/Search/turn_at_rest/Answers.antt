use Rattle.clauses.specs.Closure.{closure}
use Rattle.clauses.proofs.EnoughLaws.{open-parts, open-new}
use Rattle.solver.specs.inside.Searching.{Searching, standing, clauses_of, all_under}
use Rattle.lists.proofs.Ranges.{range-below}
use Rattle.solver.proofs.search.Search.turn_at_rest.Goals as goal

pub decide-requires-clause-variable : goal.decide-requires-clause-variable
decide-requires-clause-variable c =
    let now : Searching = c.args.self.now in
    let n = now.trial.problem.variables in
    let v = c.in-Some.variable in
    range-below n v (open-parts n (closure (all_under now)) v c.in-Some.ensures.some.0 c.in-Some.ensures.some.1).0

pub decide-requires-clause-new : goal.decide-requires-clause-new
decide-requires-clause-new c =
    let now : Searching = c.args.self.now in
    open-new now.trial.first (clauses_of now.trial) (standing now) now.trial.problem.variables c.in-Some.variable c.in-Some.ensures.some.0 c.in-Some.ensures.some.1
