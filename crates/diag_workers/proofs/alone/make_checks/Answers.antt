use Rattle.std.proofs.Common.{◌≡◌, true, false, Some, ap, ◌∙◌, rules}
use Rattle.script.specs.Running.{key_in, want_after}
use Rattle.diag_workers.proofs.AloneLaws.{asked_key, asked_none}
use Rattle.diag_workers.proofs.CourseLaws.{checked-between, checked-fewer, checked-plan, unchecked}
use Rattle.diag_workers.proofs.alone.make_checks.Goals as goal

pub checks-preserved : goal.checks-preserved
checks-preserved c =
    let run = c.checks.run in
    let holds : c.in_ok-check_next.field-0 ≡ true = search rules in
    let by = asked_key (want_after run) c.in_ok-check_next.field-0 c.in_ok-check_next.ensures.asked holds in
    let asks : key_in (want_after run) ≡ Some by.1 = ap key_in by.2 in
    record {
      problem = c.check_next.ensures.problem ∙ c.checks.invariant.problem;
      plan = checked-plan c.checks.searcher run by.1 c.check_next.new.run (c.in_ok-check_next.ensures.told by.1 asks) ∙ c.checks.invariant.plan;
      between = checked-between c.args.searcher.now c.checks.searcher c.args.options.now.ahead c.args.options.now.entries run c.checks.posting by.0 by.1 by.2 c.checks.invariant.problem c.checks.invariant.between
          c.check_next.new.run c.check_next.new.posting c.turns_go_on.ensures.one_more (c.in_ok-check_next.ensures.told by.1 asks) (c.in_ok-check_next.ensures.turn by.1 asks);
    }

pub checks-smaller : goal.checks-smaller
checks-smaller c =
    let run = c.checks.run in
    let holds : c.in_ok-check_next.field-0 ≡ true = search rules in
    let by = asked_key (want_after run) c.in_ok-check_next.field-0 c.in_ok-check_next.ensures.asked holds in
    let asks : key_in (want_after run) ≡ Some by.1 = ap key_in by.2 in
    checked-fewer c.args.course.now.run.plan c.args.searcher.now c.checks.searcher c.args.options.now.ahead c.args.options.now.entries run c.checks.posting by.0 by.1 by.2 c.checks.invariant.problem c.checks.invariant.plan c.checks.invariant.between
    c.check_next.new.run (c.in_ok-check_next.ensures.told by.1 asks)

pub returns-clause-plan : goal.returns-clause-plan
returns-clause-plan c =
    let run = c.checks.run in
    let fails : c.in_ok-check_next.field-0 ≡ false = search rules in
    let none = asked_none (want_after run) c.in_ok-check_next.field-0 c.in_ok-check_next.ensures.asked fails in
    ap (λ r. r.plan) (c.in_ok-check_next.ensures.end none).0 ∙ c.checks.invariant.plan

pub returns-clause-next : goal.returns-clause-next
returns-clause-next c =
    let run = c.checks.run in
    let fails : c.in_ok-check_next.field-0 ≡ false = search rules in
    let none = asked_none (want_after run) c.in_ok-check_next.field-0 c.in_ok-check_next.ensures.asked fails in
    let end = c.in_ok-check_next.ensures.end none in
    unchecked c.args.searcher.now c.args.options.now.ahead c.args.options.now.entries run c.checks.posting c.checks.invariant.between none c.check_next.new.run c.check_next.new.posting end.0 end.1
