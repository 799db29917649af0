use Rattle.std.proofs.Common.{◌≡◌, subst}
use Rattle.std.specs.Prelude.{IfOk, Result}
use Rattle.std.specs.declared.alloc.AllocError.{AllocError}
use Rattle.script.specs.declared.job.JobPlan.{JobPlan}
use Rattle.script.specs.declared.run.Finished.{Finished}
use Rattle.diag_top.specs.inside.Doing.{IsFinished, MayAsk}
use Rattle.diag_top.specs.inside.Jobs.{set}
use Rattle.diag_top.proofs.JobLaws.{job_done}
use Rattle.diag_top.proofs.advice.make_job.Goals as goal

pub returns-in_ok-finished-in-Ok : goal.returns-in_ok-finished-in-Ok
returns-in_ok-finished-in-Ok g c =
    let finished = c.in_ok-finished-in-Ok.finished in
    let problem = c.in-Ok.problem in
    let ahead = c.args.limits.ahead in
    let plan : JobPlan = record { requirements = c.n-requirements.result; list = c.args.list } in
    let may : MayAsk problem plan c.args.limits.workers ahead =
    record { few = c.requires.allowed.workers; near = c.requires.allowed.ahead; positions = c.n-requirements.ensures.n; list = c.requires.list } in
    let done : IfOk c.jobs.result (IsFinished problem plan ahead) = c.requires.does _ plan c.args.limits.workers ahead c.jobs.result may c.jobs.ensures in
    let P : Result Finished AllocError → Type 0 = λ r. IfOk r (IsFinished problem plan ahead) in
    let is : IsFinished problem plan ahead finished = subst P c.in_ok-finished-in-Ok.was done in (
      c.in-Ok.ensures.few,
      job_done c.args.model.now c.args.config.now (set c.args.limits) c.args.list problem c.n-requirements.result finished.outcome finished.used finished.posted finished.wasted
          c.in-Ok.ensures.problem c.n-requirements.ensures.n is.outcome is.used is.posted is.wasted,
    )
