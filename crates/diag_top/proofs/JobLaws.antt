-- What a job of the code came to is what the definition says.
use Rattle.std.proofs.Common.{◌≡◌, ℕ, ◌≤◌, Bool, false, cond, List, length, Some, None, arith, refl, sym, ap, ◌∙◌}
use Rattle.std.specs.Prelude.{Option, Result, Ok, Err, IfOk, nat_lt, unwrap_or}
use Rattle.std.proofs.lemmas.Bool.Decides.{nat_tests}
use Rattle.std.proofs.lemmas.List.{length-map}
use Rattle.clauses.specs.Problem.{ClauseProblem}
use Rattle.certificate.specs.Accepted.{RunIsDecided}
use Rattle.certificate.specs.Writing.{IsOver}
use Rattle.clause_form.specs.ClauseForm.{needed, problem_of, first_root}
use Rattle.clause_form.proofs.ProblemLaws.{length-literals}
use Rattle.command_line.specs.Words.{Settings}
use Rattle.config_reader.specs.declared.config.Requirement.{Requirement}
use Rattle.config_reader.specs.Configuration.{Configuration}
use Rattle.config_reader.specs.Consistent.{formulas_of}
use Rattle.feature_tree.specs.FeatureModel.{FeatureModel}
use Rattle.script.specs.declared.job.JobPlan.{JobPlan}
use Rattle.script.specs.declared.job.Outcome.{Outcome}
use Rattle.script.specs.declared.job.Outcome.TheVariants as outcome
use Rattle.script.specs.Job.{Told}
use Rattle.script.specs.Sequential.{needs, result_of, verdicts_of}
use Rattle.look_ahead.specs.Posting.{wasted_in}
use Rattle.look_ahead.specs.Postings.{posting}
use Rattle.req_keys.specs.Key.{PositionSet}
use Rattle.diag_top.specs.Answer.{ENTRIES, Judged, MOST_VARIABLES, advice, judged, plan_of, reported, reported_after, second_of}
use Rattle.diag_top.specs.Refusals.{too_large}
use Rattle.diag_top.specs.Work.{Reply}

-- a root for each requirement
pub root_count : (model : FeatureModel) (config : Configuration) (settings : Settings) → length (problem_of model config settings.allowance settings.rungs).roots ≡ length config.requirements
root_count model config settings =
    length-literals (first_root model config) (formulas_of config.requirements) ∙ length-map config.requirements (λ (one : Requirement). one.formula)

same_plan : (model : FeatureModel) (config : Configuration) (settings : Settings) (list : Option ℕ) (problem : ClauseProblem) (requirements : ℕ)
    → problem ≡ problem_of model config settings.allowance settings.rungs → requirements ≡ length problem.roots → (record { requirements = requirements; list = list }) ≡ plan_of config list
same_plan model config settings list problem requirements is n =
    ap (λ (k : ℕ). record { requirements = k; list = list }) (n ∙ ap (λ (p : ClauseProblem). length p.roots) is ∙ root_count model config settings)

-- what is said of the problem and of the plan with as many requirements as it has roots is said of these
moved : {X : Type 0} (said : JobPlan → ClauseProblem → X) (model : FeatureModel) (config : Configuration) (settings : Settings) (list : Option ℕ) (problem : ClauseProblem) (requirements : ℕ)
    → problem ≡ problem_of model config settings.allowance settings.rungs → requirements ≡ length problem.roots
    → said (record { requirements = requirements; list = list }) problem ≡ said (plan_of config list) (problem_of model config settings.allowance settings.rungs)
moved said model config settings list problem requirements is n =
    ap (said (record { requirements = requirements; list = list })) is
    ∙ ap (λ (plan : JobPlan). said plan (problem_of model config settings.allowance settings.rungs)) (same_plan model config settings list problem requirements is n)

same_judged : (x y : Judged) → x.outcome ≡ y.outcome → x.checks ≡ y.checks → x.predicted ≡ y.predicted → x.wasted ≡ y.wasted → x ≡ y
same_judged x y o c p w =
    ap (λ (v : Outcome). record { outcome = v; checks = x.checks; predicted = x.predicted; wasted = x.wasted }) o
    ∙ ap (λ (v : ℕ). record { outcome = y.outcome; checks = v; predicted = x.predicted; wasted = x.wasted }) c
    ∙ ap (λ (v : ℕ). record { outcome = y.outcome; checks = y.checks; predicted = v; wasted = x.wasted }) p
    ∙ ap (λ (v : ℕ). record { outcome = y.outcome; checks = y.checks; predicted = y.predicted; wasted = v }) w

pub job_done : (model : FeatureModel) (config : Configuration) (settings : Settings) (list : Option ℕ) (problem : ClauseProblem) (requirements : ℕ) (out : Outcome) (told : Told) (posted : List PositionSet) (wasted : ℕ)
    → problem ≡ problem_of model config settings.allowance settings.rungs → requirements ≡ length problem.roots
    → result_of (record { requirements = requirements; list = list }) (verdicts_of problem) ≡ Some out
    → told ≡ needs (record { requirements = requirements; list = list }) (verdicts_of problem)
    → posted ≡ (posting (record { requirements = requirements; list = list }) (verdicts_of problem) settings.ahead ENTRIES).posted
    → wasted ≡ wasted_in (posting (record { requirements = requirements; list = list }) (verdicts_of problem) settings.ahead ENTRIES)
    → (record { outcome = out; checks = length told; predicted = length posted; wasted = wasted }) ≡ judged model config settings list
job_done model config settings list problem requirements out told posted wasted is n result needed posts lost =
    let ended : out ≡ unwrap_or (result_of (plan_of config list) (verdicts_of (problem_of model config settings.allowance settings.rungs))) outcome.Background =
    sym (ap (λ (o : Option Outcome). unwrap_or o outcome.Background) result)
    ∙ moved (λ plan problem. unwrap_or (result_of plan (verdicts_of problem)) outcome.Background) model config settings list problem requirements is n in
    let checked = ap length needed ∙ moved (λ plan problem. length (needs plan (verdicts_of problem))) model config settings list problem requirements is n in
    let predicted =
    ap length posts ∙ moved (λ plan problem. length (posting plan (verdicts_of problem) settings.ahead ENTRIES).posted) model config settings list problem requirements is n in
    let in_vain = lost ∙ moved (λ plan problem. wasted_in (posting plan (verdicts_of problem) settings.ahead ENTRIES)) model config settings list problem requirements is n in
    same_judged (record { outcome = out; checks = length told; predicted = length posted; wasted = wasted }) (judged model config settings list) ended checked predicted in_vain

over_found : (n : ℕ) (found : Option Outcome) → ((o : Outcome) → found ≡ Some o → IsOver n o) → IsOver n (unwrap_or found outcome.Background)
over_found n None each = tt
over_found n (Some o) each = each o refl

-- what a job finds out are sets of the requirements
pub judged_over : (model : FeatureModel) (config : Configuration) (settings : Settings) (list : Option ℕ) → RunIsDecided → IsOver (length config.requirements) (judged model config settings list).outcome
judged_over model config settings list decided =
    over_found (length config.requirements) (result_of (plan_of config list) (verdicts_of (problem_of model config settings.allowance settings.rungs)))
    (λ o e. (decided (problem_of model config settings.allowance settings.rungs) (plan_of config list) o e).0)

-- ---- the reply

not_more : (a b : ℕ) → b ≤ a → nat_lt a b ≡ false
not_more a b l = grind (arith, nat_tests)

as_advised : (model : FeatureModel) (config : Configuration) (settings : Settings) (first : Judged) (second : Option Judged)
    → needed model config ≤ MOST_VARIABLES → first ≡ judged model config settings settings.list
    → second ≡ second_of model config settings first.outcome config.musts → reported model config settings first second ≡ advice model config settings
as_advised model config settings first second fits is found =
    ap (reported model config settings first) found
    ∙ ap (reported_after model config settings) is
    ∙ sym (ap (λ (large : Bool). cond large (too_large (needed model config)) (reported_after model config settings (judged model config settings settings.list)))
    (not_more MOST_VARIABLES (needed model config) fits))

-- what is replied with these jobs is the advice
pub advised : {E : Type 0} (replied : Result Reply E) (model : FeatureModel) (config : Configuration) (settings : Settings) (first : Judged) (second : Option Judged)
    → needed model config ≤ MOST_VARIABLES → first ≡ judged model config settings settings.list
    → second ≡ second_of model config settings first.outcome config.musts
    → IfOk replied (λ reply. reply ≡ reported model config settings first second) → IfOk replied (λ reply. reply ≡ advice model config settings)
advised (Ok reply) model config settings first second fits is found r = r ∙ as_advised model config settings first second fits is found
advised (Err e) model config settings first second fits is found r = tt
