-- What a command line is answered, from the bytes of its files to the status and the text (own to this project). The order of
-- work: words; model fetched; model read; configuration fetched; configuration read; where one is named, certificate fetched; clause
-- form; checks.
use Rattle.std.specs.Prelude.{ℕ, ◌+◌, nat_lt, false, List, [], ◌∷◌, ◌++◌, length, unwrap_or, option_map, Option, Some, None, Result, Ok, Err, if◌then◌else◌}
use Rattle.command_line.specs.Words.{Settings, Request, Diagnose, Verify, Generate, request_of}
use Rattle.command_line.specs.declared.command.What.{What}
use Rattle.command_line.specs.declared.command.What.TheVariants as what
use Rattle.command_line.specs.declared.status.Status.{Status}
use Rattle.command_line.specs.declared.status.Status.TheVariants as status
use Rattle.certificate.specs.Judging.{judge}
use Rattle.certificate.specs.Text.{certificate_text}
use Rattle.clause_form.specs.ClauseForm.{needed, problem_of}
use Rattle.config_reader.specs.Configuration.{Configuration, of_musts}
use Rattle.config_reader.specs.Reading.{configuration}
use Rattle.config_reader.specs.declared.config.Requirement.{Requirement}
use Rattle.config_reader.specs.declared.error.ConfigError.{ConfigError}
use Rattle.diag_base.specs.Shelf.{Files}
use Rattle.diag_base.specs.declared.shelf.Fetched.{Fetched}
use Rattle.diag_base.specs.declared.shelf.Fetched.TheVariants.{Whole, Longer}
use Rattle.feature_tree.specs.FeatureModel.{FeatureModel}
use Rattle.uvl_reader.specs.ModelReading.{model_of}
use Rattle.uvl_reader.specs.Refusals.{Refusal}
use Rattle.req_keys.specs.Key.{PositionSet}
use Rattle.req_keys.specs.declared.verdict.Verdict.{Verdict}
use Rattle.model_gen.specs.Texts.{model_text, config_text}
use Rattle.look_ahead.specs.Posting.{PostingState, wasted_in}
use Rattle.look_ahead.specs.Postings.{posting}
use Rattle.report.specs.Report.{Counted, report}
use Rattle.script.specs.declared.job.JobPlan.{JobPlan}
use Rattle.script.specs.declared.job.Outcome.{Outcome}
use Rattle.script.specs.declared.job.Outcome.TheVariants as outcome
use Rattle.script.specs.Sequential.{needs, result_of, verdicts_of}
use Rattle.diag_top.specs.Refusals.{words_refused, model_too_long, model_refused, config_too_long, config_refused, certificate_too_long, judgement_reply, too_large}
use Rattle.diag_top.specs.Unindented.{unindented}
use Rattle.diag_top.specs.Work.{Reply, Model, Config, Certificate, Work, Done, Fetch, handed, replied}

-- how many bytes a model file or a configuration may have
abbrev pub MOST : ℕ
MOST = 16777216

-- how many variables a problem may have
abbrev pub MOST_VARIABLES : ℕ
MOST_VARIABLES = 1000000

-- the status of an outcome
abbrev pub status_of : Outcome → Status
status_of outcome.Consistent = status.Consistent
status_of outcome.Background = status.Background
status_of (outcome.Explained parts) = status.Explained
status_of (outcome.LimitAt part key before) = status.Limit

-- how many checks are offered in a round
abbrev pub ENTRIES : ℕ
ENTRIES = 4096

-- how a job ended, how many checks it needed, how many were predicted and how many of these in vain
pub record Judged : Type 0 where
  pub outcome : Outcome
  pub checks : ℕ
  pub predicted : ℕ
  pub wasted : ℕ

abbrev pub plan_of : Configuration → Option ℕ → JobPlan
plan_of config list = record { requirements = length config.requirements; list = list }

-- the verdict on each key of the requirements
abbrev pub verdicts : FeatureModel → Configuration → Settings → PositionSet → Verdict
verdicts model config settings = verdicts_of (problem_of model config settings.allowance settings.rungs)

-- what the job posts ahead
abbrev pub postings : FeatureModel → Configuration → Settings → Option ℕ → PostingState
postings model config settings list = posting (plan_of config list) (verdicts model config settings) settings.ahead ENTRIES

-- The job about a configuration of a model, which lists minimal diagnoses up to a size or not at all: the sequential run over
-- the verdicts. It always has an outcome.
abbrev pub judged : FeatureModel → Configuration → Settings → Option ℕ → Judged
judged model config settings list = record {
  outcome = unwrap_or (result_of (plan_of config list) (verdicts model config settings)) outcome.Background;
  checks = length (needs (plan_of config list) (verdicts model config settings));
  predicted = length (postings model config settings list).posted;
  wasted = wasted_in (postings model config settings list);
}

-- Where nothing can be met and there are musts, a second job is about them: each may be given up now, and nothing is listed.
abbrev pub second_of : FeatureModel → Configuration → Settings → Outcome → List Requirement → Option Judged
second_of model config settings outcome.Background (must ∷ musts) = Some (judged model (of_musts config) settings None)
second_of model config settings _ _ = None

-- what is counted of both jobs
abbrev pub counted : Judged → Option Judged → Counted
counted first None = record { checks = first.checks; predicted = first.predicted; wasted = first.wasted }
counted first (Some second) = record {
  checks = first.checks + second.checks;
  predicted = first.predicted + second.predicted;
  wasted = first.wasted + second.wasted;
}

-- the certificate of what the first job found out, where it is asked for; there is none of a limit
abbrev pub certificate : FeatureModel → Configuration → Settings → Outcome → List ℕ
certificate model config settings outcome =
    if settings.certify then certificate_text model config (problem_of model config settings.allowance settings.rungs) outcome else []

abbrev pub reported : FeatureModel → Configuration → Settings → Judged → Option Judged → Reply
reported model config settings first second = record {
  status = status_of first.outcome;
  text = report model config settings.list first.outcome (option_map (λ job. job.outcome) second) (counted first second)
      ++ certificate model config settings first.outcome;
}

-- with what the job about the configuration came to
abbrev pub reported_after : FeatureModel → Configuration → Settings → Judged → Reply
reported_after model config settings first = reported model config settings first (second_of model config settings first.outcome config.musts)

-- the advice for a configuration of a model
abbrev pub advice : FeatureModel → Configuration → Settings → Reply
advice model config settings =
    if nat_lt MOST_VARIABLES (needed model config) then too_large (needed model config)
    else reported_after model config settings (judged model config settings settings.list)

-- ---- both files

-- once the configuration is read
abbrev pub with_config : (Configuration → Work) → Result Configuration ConfigError → Work
with_config next (Ok config) = next config
with_config next (Err error) = Done (config_refused error)

-- once the configuration is fetched
abbrev pub with_config_file : FeatureModel → (Configuration → Work) → Fetched → Work
with_config_file model next Longer = Done config_too_long
with_config_file model next (Whole bytes) = with_config next (configuration bytes model)

-- once the model is read
abbrev pub with_model : List ℕ → (FeatureModel → Configuration → Work) → Result FeatureModel Refusal → Work
with_model config next (Ok model) = Fetch Config config MOST (with_config_file model (next model))
with_model config next (Err refused) = Done (model_refused refused)

-- once the model is fetched
abbrev pub with_model_file : List ℕ → (FeatureModel → Configuration → Work) → Fetched → Work
with_model_file config next Longer = Done model_too_long
with_model_file config next (Whole bytes) = with_model config next (model_of bytes)

-- both files are fetched and read, and what is next is done with them
abbrev pub with_both : (model config : List ℕ) → (FeatureModel → Configuration → Work) → Work
with_both model config next = Fetch Model model MOST (with_model_file config next)

abbrev pub advised : Settings → FeatureModel → Configuration → Work
advised settings model config = Done (advice model config settings)

-- ---- certificates

-- how many bytes a certificate may have
abbrev pub MOST_SHOWN : ℕ
MOST_SHOWN = 268435456

-- what is said of a certificate with these bytes. The problem's clauses don't depend on how much a check may learn
abbrev pub verdict_on_certificate : FeatureModel → Configuration → List ℕ → Reply
verdict_on_certificate model config bytes =
    if nat_lt MOST_VARIABLES (needed model config) then too_large (needed model config)
    else judgement_reply (judge model config (problem_of model config 0 0) bytes)

-- once the certificate is fetched
abbrev pub with_certificate_file : FeatureModel → Configuration → Fetched → Work
with_certificate_file model config Longer = Done certificate_too_long
with_certificate_file model config (Whole bytes) = Done (verdict_on_certificate model config bytes)

abbrev pub verified : List ℕ → FeatureModel → Configuration → Work
verified certificate model config = Fetch Certificate certificate MOST_SHOWN (with_certificate_file model config)

-- ---- generated texts

-- where no option is named
abbrev pub plain : Settings
plain = record { allowance = 10000; rungs = 0; list = None; ahead = 0; workers = 0; certify = false }

-- the reply where each fetch hands over this
abbrev pub replied_with : Fetched → Work → Reply
replied_with file (Done reply) = reply
replied_with file (Fetch role word most next) = replied_with file (next file)

-- what is replied to a model and a configuration with these bytes
abbrev pub advice_on : List ℕ → List ℕ → Reply
advice_on model config = replied_with (handed MOST config) (with_model_file [] (advised plain) (handed MOST model))

-- the report is without its lines that begin with a blank; were the texts refused, what is replied then would stand in its place
abbrev pub generated_text : ℕ → ℕ → What → List ℕ
generated_text seed size what.Model = model_text seed size
generated_text seed size what.Config = config_text seed size
generated_text seed size what.Report = unindented (advice_on (model_text seed size) (config_text seed size)).text

abbrev pub generated : ℕ → ℕ → What → Reply
generated seed size what = record { status = status.Generated; text = generated_text seed size what }

-- the work that is asked for
abbrev pub work_of : Option Request → Work
work_of None = Done words_refused
work_of (Some (Diagnose model config settings)) = with_both model config (advised settings)
work_of (Some (Verify model config certificate)) = with_both model config (verified certificate)
work_of (Some (Generate seed size what)) = Done (generated seed size what)

-- the work that the words ask for
abbrev pub work_for : List (List ℕ) → Work
work_for words = work_of (request_of words)

-- The answer to a command line over these files. It is there where every file is that this order fetches.
abbrev pub answer : List (List ℕ) → Files → Option Reply
answer words files = replied files (work_for words)
