-- An answer is no fault.
use Rattle.std.proofs.Common.{◌≡◌, ℕ, Bool, true, false, cond, List, Some, None, subst}
use Rattle.std.specs.Prelude.{Option, Result, Ok, Err, nat_lt}
use Rattle.std.specs.Option.{option_and_then}
use Rattle.std.proofs.lemmas.Option.{none-some, same_Some}
use Rattle.command_line.specs.Words.{Settings, Request, Diagnose, Verify, Generate, request_of}
use Rattle.clause_form.specs.ClauseForm.{needed, problem_of}
use Rattle.config_reader.specs.Configuration.{Configuration}
use Rattle.config_reader.specs.Reading.{configuration}
use Rattle.config_reader.specs.declared.error.ConfigError.{ConfigError}
use Rattle.config_reader.specs.declared.error.ConfigError.TheVariants as config
use Rattle.diag_base.specs.Shelf.{Files}
use Rattle.diag_base.specs.declared.shelf.Fetched.{Fetched}
use Rattle.diag_base.specs.declared.shelf.Fetched.TheVariants.{Whole, Longer}
use Rattle.feature_tree.specs.FeatureModel.{FeatureModel}
use Rattle.script.specs.declared.job.Outcome.{Outcome}
use Rattle.script.specs.declared.job.Outcome.TheVariants as outcome
use Rattle.uvl_reader.specs.ModelReading.{model_of}
use Rattle.uvl_reader.specs.Refusals.{Refusal}
use Rattle.diag_top.specs.Answer.{MOST_VARIABLES, judged, reported_after, status_of, advice, advised, verified, verdict_on_certificate, with_config, with_config_file, with_model, with_model_file, with_certificate_file, work_of, work_for}
use Rattle.diag_top.specs.Laws.{AnswersAreNoFaults}
use Rattle.certificate.specs.Judging.{judge}
use Rattle.certificate.specs.declared.judgement.Judgement.{Judgement}
use Rattle.certificate.specs.declared.judgement.Judgement.TheVariants as judgement
use Rattle.diag_top.specs.Refusals.{judgement_reply, too_large}
use Rattle.diag_top.specs.Run.{IsOfAnAnswer}
use Rattle.diag_top.specs.Work.{Reply, Work, Done, Fetch, handed, replied}

-- every reply that the work may end with is of an answer
abbrev EndsWell : Work → Type 0
EndsWell (Done reply) = IsOfAnAnswer reply.status
EndsWell (Fetch role word most next) = (file : Fetched) → EndsWell (next file)

by_file : (follow : List ℕ → Option Reply) (found : Option (List ℕ)) (reply : Reply) → ((bytes : List ℕ) → follow bytes ≡ Some reply → IsOfAnAnswer reply.status) → option_and_then follow found ≡ Some reply → IsOfAnAnswer reply.status
by_file follow None reply each e = absurd (none-some reply e)
by_file follow (Some bytes) reply each e = each bytes e

-- so is the one that it ends with
ends_well : (files : Files) (work : Work) (reply : Reply) → EndsWell work → replied files work ≡ Some reply → IsOfAnAnswer reply.status
ends_well files (Done done) reply well e = subst (λ (r : Reply). IsOfAnAnswer r.status) (same_Some done reply e) well
ends_well files (Fetch role word most next) reply well e =
    by_file (λ bytes. replied files (next (handed most bytes))) (files word) reply (λ bytes. ends_well files (next (handed most bytes)) reply (well (handed most bytes))) e

-- ---- the work of a command

status_well : (o : Outcome) → IsOfAnAnswer (status_of o)
status_well outcome.Consistent = tt
status_well outcome.Background = tt
status_well (outcome.Explained parts) = tt
status_well (outcome.LimitAt part key before) = tt

either_well : (test : Bool) (one other : Reply) → IsOfAnAnswer one.status → IsOfAnAnswer other.status → IsOfAnAnswer (cond test one other).status
either_well true one other a b = a
either_well false one other a b = b

advice_well : (model : FeatureModel) (config : Configuration) (settings : Settings) → IsOfAnAnswer (advice model config settings).status
advice_well model config settings =
    either_well (nat_lt MOST_VARIABLES (needed model config)) (too_large (needed model config))
    (reported_after model config settings (judged model config settings settings.list)) tt (status_well (judged model config settings settings.list).outcome)

config_well : (next : Configuration → Work) (read : Result Configuration ConfigError) → ((config : Configuration) → EndsWell (next config)) → EndsWell (with_config next read)
config_well next (Ok config) well = well config
config_well next (Err (config.Refused line reason)) well = tt
config_well next (Err config.Memory) well = tt

config_file_well : (model : FeatureModel) (next : Configuration → Work) → ((config : Configuration) → EndsWell (next config)) → (file : Fetched) → EndsWell (with_config_file model next file)
config_file_well model next well Longer = tt
config_file_well model next well (Whole bytes) = config_well next (configuration bytes model) well

model_well : (config : List ℕ) (next : FeatureModel → Configuration → Work) (read : Result FeatureModel Refusal) → ((model : FeatureModel) (config : Configuration) → EndsWell (next model config)) → EndsWell (with_model config next read)
model_well config next (Ok model) well = config_file_well model (next model) (well model)
model_well config next (Err refused) well = tt

model_file_well : (config : List ℕ) (next : FeatureModel → Configuration → Work) → ((model : FeatureModel) (config : Configuration) → EndsWell (next model config)) → (file : Fetched) → EndsWell (with_model_file config next file)
model_file_well config next well Longer = tt
model_file_well config next well (Whole bytes) = model_well config next (model_of bytes) well

judgement_well : (judged : Judgement) → IsOfAnAnswer (judgement_reply judged).status
judgement_well (judgement.Yes shown) = tt
judgement_well (judgement.No line why) = tt

verified_well : (model : FeatureModel) (config : Configuration) (bytes : List ℕ) → IsOfAnAnswer (verdict_on_certificate model config bytes).status
verified_well model config bytes =
    either_well (nat_lt MOST_VARIABLES (needed model config)) (too_large (needed model config)) (judgement_reply (judge model config (problem_of model config 0 0) bytes)) tt
    (judgement_well (judge model config (problem_of model config 0 0) bytes))

certificate_file_well : (model : FeatureModel) (config : Configuration) (file : Fetched) → EndsWell (with_certificate_file model config file)
certificate_file_well model config Longer = tt
certificate_file_well model config (Whole bytes) = verified_well model config bytes

work_well : (asked : Option Request) → EndsWell (work_of asked)
work_well None = tt
work_well (Some (Diagnose model config settings)) = model_file_well config (advised settings) (λ m c. advice_well m c settings)
work_well (Some (Verify model config certificate)) = model_file_well config (verified certificate) certificate_file_well
work_well (Some (Generate seed size what)) = tt

pub answers_are_no_faults : AnswersAreNoFaults
answers_are_no_faults words files reply e = ends_well files (work_for words) reply (work_well (request_of words)) e
