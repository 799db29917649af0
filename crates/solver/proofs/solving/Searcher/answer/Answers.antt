use Rattle.std.proofs.Common.{Some, subst, ap, sym, ◌∙◌}
use Rattle.clauses.specs.Problem.{ClauseProblem, IsProblem}
use Rattle.clauses.specs.Search.{search_of}
use Rattle.solver.proofs.SolveLaws.{right-answer}
use Rattle.solver.proofs.solving.Searcher.answer.Goals as goal

pub returns-clause-right : goal.returns-clause-right
returns-clause-right g c =
    let problem : ClauseProblem = c.args.self.now in
    let key = c.args.key.now in
    right-answer problem key (subst IsProblem c.self.view_is c.search_for.ensures.lawful) c.in_ok-answer.field-0
    (ap (λ (p : ClauseProblem). search_of p key) (sym c.self.view_is) ∙ c.in_ok-ending.ensures.ended ∙ ap Some (sym c.in_ok-answer.ensures.meaning))
