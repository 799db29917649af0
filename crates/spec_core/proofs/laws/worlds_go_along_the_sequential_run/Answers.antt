use Rattle.std.proofs.Common.{◌∙◌, ap, subst, sym}
use Rattle.script.proofs.SequentialRuns.{so_far-all, so_far-starts}
use Rattle.script.specs.Job.{want}
use Rattle.script.specs.Sequential.{IsSoFar, outcome_of}
use Rattle.script.specs.declared.job.JobPlan.{JobPlan}
use Rattle.spec_core.specs.World.{World, new_world, world_over}
use Rattle.spec_core.proofs.Worlds.{along-new, ended_by, goes-over}
use Rattle.spec_core.proofs.laws.worlds_go_along_the_sequential_run.Goals as goal

pub returns-clause-along : goal.returns-clause-along
returns-clause-along c = λ plan verdict workers entries events. (goes-over verdict plan events (new_world plan workers entries) (along-new verdict plan workers entries)).0

pub returns-clause-begins : goal.returns-clause-begins
returns-clause-begins c = λ plan verdict workers entries events.
    let world : World = world_over verdict events (new_world plan workers entries) in
    let goes = goes-over verdict plan events (new_world plan workers entries) (along-new verdict plan workers entries) in
    let P : JobPlan → Type 0 = λ p. IsSoFar p verdict world.told in
    so_far-starts plan verdict world.told (subst P goes.1 goes.0.told)

pub returns-clause-outcome : goal.returns-clause-outcome
returns-clause-outcome c = λ plan verdict workers entries events outcome e.
    let world : World = world_over verdict events (new_world plan workers entries) in
    let goes = goes-over verdict plan events (new_world plan workers entries) (along-new verdict plan workers entries) in
    let P : JobPlan → Type 0 = λ p. IsSoFar p verdict world.told in
    let done = ap (λ (p : JobPlan). want p world.told) (sym goes.1) ∙ ended_by (want world.plan world.told) outcome e in
    let all = so_far-all plan verdict world.told outcome (subst P goes.1 goes.0.told) done in
    ap outcome_of (ap (want plan) (sym all) ∙ done)
