use Rattle.diag_workers.proofs.CourseLaws.{begins-first, begun-between, if_ok}
use Rattle.diag_workers.proofs.running.begin.Goals as goal

pub returns-clause-next : goal.returns-clause-next
returns-clause-next c =
    let course = c.in_ok-course.course in
    if_ok c.first_turn.result
    (λ begun h problem. h problem c.args.options.now.entries
    (begun-between problem c.args.options.now.ahead c.args.options.now.entries c.args.plan course.run course.posting c.in_ok-course.ensures.run c.in_ok-course.ensures.posting))
    c.first_turn.ensures.next

pub returns-clause-begins : goal.returns-clause-begins
returns-clause-begins c =
    let course = c.in_ok-course.course in
    if_ok c.first_turn.result (λ begun h. begins-first c.args.plan course.run begun.run begun.next c.in_ok-course.ensures.run h) c.first_turn.ensures.run
