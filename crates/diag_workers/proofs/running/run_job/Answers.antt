use Rattle.std.proofs.Common.{ap, ◌∙◌}
use Rattle.look_ahead.specs.Posting.{PostingState, wasted_in}
use Rattle.diag_workers.proofs.CourseLaws.{done-used, done-outcome, done-posting}
use Rattle.diag_workers.proofs.running.run_job.Goals as goal

pub finish-requires : goal.finish-requires
finish-requires g c = c.in_ok-done.ensures.next.1

pub returns-clause-outcome : goal.returns-clause-outcome
returns-clause-outcome g c =
    let done = c.in_ok-done.done in
    done-outcome c.args.plan c.args.problem.now c.args.options.now.ahead c.args.options.now.entries done.run done.posting (c.in_ok-done.ensures.plan ∙ c.in_ok-begun.ensures.plan) c.in_ok-done.ensures.next c.finish.result.outcome c.finish.ensures.outcome

pub returns-clause-used : goal.returns-clause-used
returns-clause-used g c =
    let done = c.in_ok-done.done in
    c.finish.ensures.used
    ∙ done-used c.args.plan c.args.problem.now c.args.options.now.ahead c.args.options.now.entries done.run done.posting (c.in_ok-done.ensures.plan ∙ c.in_ok-begun.ensures.plan) c.in_ok-done.ensures.next c.finish.result.outcome c.finish.ensures.outcome

pub returns-clause-posted : goal.returns-clause-posted
returns-clause-posted g c =
    let done = c.in_ok-done.done in
    c.finish.ensures.posted
    ∙ ap (λ (s : PostingState). s.posted)
    (done-posting c.args.plan c.args.problem.now c.args.options.now.ahead c.args.options.now.entries done.run done.posting (c.in_ok-done.ensures.plan ∙ c.in_ok-begun.ensures.plan) c.in_ok-done.ensures.next c.finish.result.outcome c.finish.ensures.outcome)

pub returns-clause-wasted : goal.returns-clause-wasted
returns-clause-wasted g c =
    let done = c.in_ok-done.done in
    c.finish.ensures.wasted
    ∙ ap wasted_in
    (done-posting c.args.plan c.args.problem.now c.args.options.now.ahead c.args.options.now.entries done.run done.posting (c.in_ok-done.ensures.plan ∙ c.in_ok-begun.ensures.plan) c.in_ok-done.ensures.next c.finish.result.outcome c.finish.ensures.outcome)

pub make_rounds-requires-clause-next : goal.make_rounds-requires-clause-next
make_rounds-requires-clause-next g c = λ lifetimes lives. c.in_ok-begun.ensures.next c.args.problem.now
