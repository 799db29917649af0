use Rattle.diag_workers.proofs.CourseLaws.{begun-between}
use Rattle.diag_workers.proofs.alone.all_checks.Goals as goal

pub make_checks-requires-clause-between : goal.make_checks-requires-clause-between
make_checks-requires-clause-between c =
    begun-between c.args.searcher.now c.args.options.now.ahead c.args.options.now.entries c.args.plan c.in_ok-course.course.run c.in_ok-course.course.posting c.in_ok-course.ensures.run c.in_ok-course.ensures.posting
