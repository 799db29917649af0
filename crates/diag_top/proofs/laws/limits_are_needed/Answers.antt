use Rattle.std.proofs.Common.{ap}
use Rattle.std.specs.Prelude.{Option, unwrap_or}
use Rattle.script.specs.declared.job.Outcome.{Outcome}
use Rattle.script.specs.declared.job.Outcome.TheVariants as outcome
use Rattle.script.specs.Sequential.{result_of}
use Rattle.diag_top.specs.Answer.{plan_of, verdicts}
use Rattle.diag_top.proofs.LimitLaws.{named-limit, needed-limit, was-some}
use Rattle.diag_top.proofs.laws.limits_are_needed.Goals as goal

pub returns : goal.returns
returns c = λ model config settings list key.
    let plan = plan_of config list in
    let verdict = verdicts model config settings in (
      λ (part, before, e). named-limit plan verdict part key before (was-some (result_of plan verdict) part key before e),
      λ needed. let (part, before, e) = needed-limit plan verdict key needed in (part, before, ap (λ (o : Option Outcome). unwrap_or o outcome.Background) e),
    )
