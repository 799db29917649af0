-- What holds of every run and of every outcome.
use Rattle.std.specs.Prelude.{◌≡◌, ℕ, ◌≤◌, Contains, List, Option, Some}
use Rattle.command_line.specs.Words.{Settings, AreAllowed, Diagnose, request_of}
use Rattle.config_reader.specs.Configuration.{Configuration, IsWithin}
use Rattle.config_reader.specs.Consistent.{AreConsistent}
use Rattle.clause_form.specs.ClauseForm.{needed}
use Rattle.clause_form.specs.Laws.{IsStatedOf}
use Rattle.feature_tree.specs.FeatureModel.{FeatureModel}
use Rattle.diag_base.specs.Shelf.{Files}
use Rattle.req_keys.specs.Key.{PositionSet}
use Rattle.req_keys.specs.declared.verdict.Verdict.TheVariants as verdict
use Rattle.script.specs.declared.job.Outcome.TheVariants as outcome
use Rattle.script.specs.declared.job.Part.{Part}
use Rattle.script.specs.declared.job.Parts.{Parts}
use Rattle.script.specs.Right.{IsRight}
use Rattle.script.specs.Sequential.{needs}
use Rattle.diag_top.specs.Answer.{MOST_VARIABLES, answer, judged, plan_of, verdicts}
use Rattle.diag_top.specs.Run.{IsOfAnAnswer}
use Rattle.diag_top.specs.Work.{Reply}

-- an answer is never want of memory or a fault
abbrev pub AnswersAreNoFaults : Type 0
AnswersAreNoFaults = (words : List (List ℕ)) (files : Files) (reply : Reply) → answer words files ≡ Some reply → IsOfAnAnswer reply.status

-- command lines that differ in how many workers they ask for are answered alike
abbrev pub WorkersChangeNothing : Type 0
WorkersChangeNothing =
    (words others : List (List ℕ)) (model config : List ℕ) (settings : Settings) (workers : ℕ) (files : Files)
    → request_of words ≡ Some (Diagnose model config settings)
    → request_of others ≡ Some (Diagnose model config (record settings { workers = workers }))
    → answer others files ≡ answer words files

-- What is found out about a configuration that isn't too large says what is so of 'some product makes the musts and these
-- requirements true'. The second job is about `of_musts` of it.
abbrev pub AdviceIsRight : Type 0
AdviceIsRight =
    (model : FeatureModel) (config : Configuration) (settings : Settings) (list : Option ℕ) → IsStatedOf model config
    → IsWithin config.requirements config.musts → AreAllowed settings → needed model config ≤ MOST_VARIABLES
    → IsRight (AreConsistent model config) (plan_of config list) (judged model config settings list).outcome

-- the job ends with a limit at this key
abbrev pub IsLimitAt : FeatureModel → Configuration → Settings → Option ℕ → PositionSet → Type 0
IsLimitAt model config settings list key =
    (part : Part) × (before : Parts) × ((judged model config settings list).outcome ≡ outcome.LimitAt part key before)

-- A job ends with a limit exactly where a check that it needs has the verdict Limit, and it names one.
abbrev pub LimitsAreNeeded : Type 0
LimitsAreNeeded =
    (model : FeatureModel) (config : Configuration) (settings : Settings) (list : Option ℕ) (key : PositionSet)
    → (IsLimitAt model config settings list key → Contains (needs (plan_of config list) (verdicts model config settings)) (key, verdict.Limit))
    × (Contains (needs (plan_of config list) (verdicts model config settings)) (key, verdict.Limit) → IsLimitAt model config settings list key)
