use Rattle.std.proofs.Common.{◌≡◌, Bor, Some, None, length, sym, ap, subst, ◌∙◌}
use Rattle.std.specs.Prelude.{Option, option_map}
use Rattle.std.specs.Option.{option_copied}
use Rattle.script.specs.declared.run.Finished.{Finished}
use Rattle.diag_top.specs.declared.advice.Job.TheVariants.{Done}
use Rattle.diag_top.specs.inside.Jobs.{IsDone, job_of, set}
use Rattle.certificate.specs.Writing.{IsOver}
use Rattle.script.specs.declared.job.Outcome.{Outcome}
use Rattle.diag_top.specs.Answer.{Judged}
use Rattle.diag_top.proofs.JobLaws.{advised, judged_over}
use Rattle.diag_top.proofs.advice.advice.Goals as goal

copied : (shown : Option (Bor Finished)) (second : Option Finished) → option_copied shown ≡ second → option_map (λ job. job_of job.now) shown ≡ option_map job_of second
copied None second e = ap (option_map job_of) e
copied (Some job) second e = ap (option_map job_of) e

pub returns : goal.returns
returns g c =
    let model = c.args.model.now in
    let config = c.args.config.now in
    let settings = set c.args.limits in
    let done : IsDone model config settings c.args.limits.list (Done c.in-Done.finished) =
    subst (IsDone model config settings c.args.limits.list) c.in-Done.is c.in_ok-finished.ensures in
    advised c.reported.result model config settings (job_of c.in-Done.finished) (option_map (λ job. job_of job.now) c.as_ref.result)
    done.0 done.1 (copied c.as_ref.result c.in_ok-second.second c.as_ref.ensures.value ∙ c.in_ok-second.ensures) c.reported.ensures

pub reported-requires-clause-over : goal.reported-requires-clause-over
reported-requires-clause-over g c =
    let model = c.args.model.now in
    let config = c.args.config.now in
    let settings = set c.args.limits in
    let done : IsDone model config settings c.args.limits.list (Done c.in-Done.finished) =
    subst (IsDone model config settings c.args.limits.list) c.in-Done.is c.in_ok-finished.ensures in
    subst (λ (found : Outcome). IsOver (length config.requirements) found) (sym (ap (λ (j : Judged). j.outcome) done.1))
    (judged_over model config settings c.args.limits.list c.written_is_accepted.ensures.decided)
