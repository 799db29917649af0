use Rattle.std.proofs.Common.{None, ap, subst, ◌∙◌}
use Rattle.clauses.specs.Problem.{ClauseProblem}
use Rattle.look_ahead.specs.Posting.{PostingState, wasted_in}
use Rattle.diag_workers.specs.inside.Course.{IsNext}
use Rattle.diag_workers.proofs.CourseLaws.{done-used, done-outcome, done-posting}
use Rattle.diag_workers.proofs.alone.run_job_alone.Goals as goal

pub finish-requires : goal.finish-requires
finish-requires c = c.in_ok-done.ensures.next.1

pub returns-clause-outcome : goal.returns-clause-outcome
returns-clause-outcome c =
    let done = c.in_ok-done.done in
    let problem = c.args.problem.now in
    let P : ClauseProblem → Type 0 = λ p. IsNext p c.args.options.now.ahead c.args.options.now.entries done.run done.posting None in
    let next = subst P c.in_ok-searcher.ensures c.in_ok-done.ensures.next in
    done-outcome c.args.plan problem c.args.options.now.ahead c.args.options.now.entries done.run done.posting c.in_ok-done.ensures.plan next c.finish.result.outcome c.finish.ensures.outcome

pub returns-clause-used : goal.returns-clause-used
returns-clause-used c =
    let done = c.in_ok-done.done in
    let problem = c.args.problem.now in
    let P : ClauseProblem → Type 0 = λ p. IsNext p c.args.options.now.ahead c.args.options.now.entries done.run done.posting None in
    let next = subst P c.in_ok-searcher.ensures c.in_ok-done.ensures.next in
    c.finish.ensures.used
    ∙ done-used c.args.plan problem c.args.options.now.ahead c.args.options.now.entries done.run done.posting c.in_ok-done.ensures.plan next c.finish.result.outcome c.finish.ensures.outcome

pub returns-clause-posted : goal.returns-clause-posted
returns-clause-posted c =
    let done = c.in_ok-done.done in
    let problem = c.args.problem.now in
    let P : ClauseProblem → Type 0 = λ p. IsNext p c.args.options.now.ahead c.args.options.now.entries done.run done.posting None in
    let next = subst P c.in_ok-searcher.ensures c.in_ok-done.ensures.next in
    c.finish.ensures.posted
    ∙ ap (λ (s : PostingState). s.posted)
    (done-posting c.args.plan problem c.args.options.now.ahead c.args.options.now.entries done.run done.posting c.in_ok-done.ensures.plan next c.finish.result.outcome c.finish.ensures.outcome)

pub returns-clause-wasted : goal.returns-clause-wasted
returns-clause-wasted c =
    let done = c.in_ok-done.done in
    let problem = c.args.problem.now in
    let P : ClauseProblem → Type 0 = λ p. IsNext p c.args.options.now.ahead c.args.options.now.entries done.run done.posting None in
    let next = subst P c.in_ok-searcher.ensures c.in_ok-done.ensures.next in
    c.finish.ensures.wasted
    ∙ ap wasted_in
    (done-posting c.args.plan problem c.args.options.now.ahead c.args.options.now.entries done.run done.posting c.in_ok-done.ensures.plan next c.finish.result.outcome c.finish.ensures.outcome)
