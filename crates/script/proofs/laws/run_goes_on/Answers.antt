use Rattle.std.proofs.Common.{refl, ap, sym, ◌∙◌}
use Rattle.script.specs.Job.{want}
use Rattle.script.specs.Sequential.{outcome_of}
use Rattle.script.proofs.SequentialRuns.{few-checks, so_far-checks, so_far-push, so_far-starts, so_far-all}
use Rattle.script.proofs.laws.run_goes_on.Goals as goal

pub returns-clause-none : goal.returns-clause-none
returns-clause-none c = λ plan verdict. (0, refl)

pub returns-clause-one_more : goal.returns-clause-one_more
returns-clause-one_more c = λ plan verdict told part key far e. so_far-push plan verdict told part key far e

pub returns-clause-few : goal.returns-clause-few
returns-clause-few c = λ plan verdict told far. few-checks plan.requirements verdict told (so_far-checks plan verdict told far)

pub returns-clause-begins : goal.returns-clause-begins
returns-clause-begins c = λ plan verdict told far. so_far-starts plan verdict told far

pub returns-clause-all : goal.returns-clause-all
returns-clause-all c = λ plan verdict told outcome far e.
    let same = so_far-all plan verdict told outcome far e in
    (same, ap outcome_of (ap (want plan) (sym same) ∙ e))
