use Rattle.std.proofs.Common.{◌≡◌, ◌≤◌, ap, sym, subst, arith, ◌∙◌}
use Rattle.std.specs.Prelude.{unwrap_or, get_or}
use Rattle.clause_form.specs.ClauseForm.{problem_of, variables_of}
use Rattle.clause_form.proofs.ProblemLaws.{is-problem}
use Rattle.config_reader.specs.Consistent.{AreConsistent}
use Rattle.script.specs.declared.job.Outcome.TheVariants as outcome
use Rattle.script.specs.Job.{Wanted}
use Rattle.script.specs.Right.{AreTrue, IsRight}
use Rattle.script.specs.Sequential.{needs, outcome_of, verdicts_of}
use Rattle.script.proofs.SequentialRuns.{needs-checks, needs-end}
use Rattle.diag_top.specs.Answer.{judged, plan_of}
use Rattle.diag_top.proofs.AdviceLaws.{fewer_consistent, true_verdict}
use Rattle.diag_top.proofs.JobLaws.{root_count}
use Rattle.diag_top.proofs.laws.advice_is_right.Goals as goal

pub returns : goal.returns
returns c = λ model config settings list stated within allowed fits.
    let problem = problem_of model config settings.allowance settings.rungs in
    let plan = plan_of config list in
    let verdict = verdicts_of problem in
    let few : variables_of model config ≤ 1000000 = omega arith in
    let is = is-problem model config settings.allowance settings.rungs stated within.requirements_few few allowed.allowance allowed.rungs in
    let checks = needs-checks plan verdict in
    let end = needs-end plan verdict in
    let told = needs plan verdict in
    let all_true : AreTrue (AreConsistent model config) told =
    λ k d l. true_verdict model config settings stated is (get_or told k d).0 (get_or told k d).1 ((checks.over k d l).0 ∙ sym (root_count model config settings)) (checks.answered k d l) in
    let ends : (judged model config settings list).outcome ≡ end.0 = ap (λ (w : Wanted). unwrap_or (outcome_of w) outcome.Background) end.1 in
    subst (IsRight (AreConsistent model config) plan) (sym ends)
    (c.outcome_is_right.ensures (record { model = model; config = config }) plan told end.0 (fewer_consistent model config settings stated) all_true end.1)
