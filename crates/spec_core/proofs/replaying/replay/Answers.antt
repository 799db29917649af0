use Rattle.script.specs.Sequential.{verdicts_of}
use Rattle.spec_core.proofs.Playing.{ended-along, ended-begins, ended-outcome}
use Rattle.spec_core.proofs.replaying.replay.Goals as goal

pub returns-clause-along : goal.returns-clause-along
returns-clause-along c =
    ended-along c.args.problem.now c.args.plan c.args.workers c.args.entries c.args.events.now c.as_slice.result.now c.in_ok-world.world c.play.new.world c.in_ok-world.ensures c.in_ok-play.ensures c.as_slice.ensures
    (c.worlds_go_along_the_sequential_run.ensures.along c.args.plan (verdicts_of c.args.problem.now) c.args.workers c.args.entries c.args.events.now)

pub returns-clause-begins : goal.returns-clause-begins
returns-clause-begins c =
    ended-begins c.args.problem.now c.args.plan c.args.workers c.args.entries c.args.events.now c.as_slice.result.now c.in_ok-world.world c.play.new.world c.in_ok-world.ensures c.in_ok-play.ensures c.as_slice.ensures
    (c.worlds_go_along_the_sequential_run.ensures.begins c.args.plan (verdicts_of c.args.problem.now) c.args.workers c.args.entries c.args.events.now)

pub returns-clause-outcome : goal.returns-clause-outcome
returns-clause-outcome c =
    ended-outcome c.args.problem.now c.args.plan c.args.workers c.args.entries c.args.events.now c.as_slice.result.now c.in_ok-world.world c.play.new.world c.in_ok-world.ensures c.in_ok-play.ensures c.as_slice.ensures
    (c.worlds_go_along_the_sequential_run.ensures.outcome c.args.plan (verdicts_of c.args.problem.now) c.args.workers c.args.entries c.args.events.now)
