use Rattle.std.proofs.Common.{◌<◌, subst, arith}
use Rattle.std.specs.Prelude.{None}
use Rattle.clause_form.specs.ClauseForm.{needed}
use Rattle.config_reader.specs.Configuration.{Configuration}
use Rattle.diag_top.specs.Answer.{MOST_VARIABLES}
use Rattle.diag_top.specs.declared.advice.Job.TheVariants.{TooLarge}
use Rattle.diag_top.specs.inside.Jobs.{IsDone, set}
use Rattle.diag_top.proofs.MustsLemmas.{musts_need_no_more}
use Rattle.diag_top.proofs.advice.second_job.Goals as goal

pub returns : goal.returns
returns g c =
    let model = c.args.model.now in
    let done : IsDone model c.in_ok-musts.musts (set c.args.limits) None (TooLarge c.in-TooLarge.field-0) =
    subst (IsDone model c.in_ok-musts.musts (set c.args.limits) None) c.in-TooLarge.is c.in_ok-finished.ensures in
    let many = subst (λ (config : Configuration). MOST_VARIABLES < needed model config) c.in_ok-musts.ensures done.0 in
    absurd (omega (arith, many, musts_need_no_more model c.args.config.now, c.requires.fits))
