-- The report on a job about a configuration of a model (own to this project).
use Rattle.std.specs.Prelude.{ℕ, List, [], ◌++◌, codes, Option, Some, None}
use Rattle.config_reader.specs.Configuration.{Configuration}
use Rattle.config_reader.specs.declared.config.Requirement.{Requirement}
use Rattle.feature_tree.specs.FeatureModel.{FeatureModel}
use Rattle.req_keys.specs.Key.{PositionSet}
use Rattle.script.specs.declared.job.Outcome.{Outcome}
use Rattle.script.specs.declared.job.Outcome.TheVariants.{Consistent, Background, Explained, LimitAt}
use Rattle.script.specs.declared.job.Parts.{Parts}
use Rattle.report.specs.Lines.{line, model_line, requirements_line, musts_line, diagnosis_lines, conflict_lines, listing_lines, limit_line, checks_line}

-- how many checks were made, over all jobs, how many were predicted, and how many of these in vain
pub record Counted : Type 0 where
  pub checks : ℕ
  pub predicted : ℕ
  pub wasted : ℕ

abbrev pub result_word : Outcome → List ℕ
result_word Consistent = codes "consistent"
result_word Background = codes "background"
result_word (Explained parts) = codes "explained"
result_word (LimitAt found_in key before) = codes "limit"

abbrev pub if_known : {A : Type 0} → (A → List ℕ) → Option A → List ℕ
if_known lines None = []
if_known lines (Some known) = lines known

-- ---- what was found out, as far as it is known

-- the size up to which diagnoses are listed
abbrev pub size_of : Option ℕ → ℕ
size_of None = 0
size_of (Some size) = size

abbrev pub parts_lines : List Requirement → Option ℕ → Parts → List ℕ
parts_lines requirements list parts =
    if_known (diagnosis_lines requirements) parts.kept ++ if_known (conflict_lines requirements) parts.conflict
    ++ if_known (listing_lines (size_of list)) parts.listing

abbrev pub finding_lines : List Requirement → Option ℕ → Outcome → List ℕ
finding_lines requirements list Consistent = []
finding_lines requirements list Background = []
finding_lines requirements list (Explained parts) = parts_lines requirements list parts
finding_lines requirements list (LimitAt found_in key before) = parts_lines requirements list before ++ limit_line found_in key

-- ---- the same of the musts, which have a job of their own and no listing

abbrev pub must_parts_lines : List Requirement → Parts → List ℕ
must_parts_lines musts parts =
    if_known (λ kept. codes "must " ++ diagnosis_lines musts kept) parts.kept
    ++ if_known (λ conflict. codes "must " ++ conflict_lines musts conflict) parts.conflict

-- a second job is never consistent: nothing meets its formulas together
abbrev pub must_finding_lines : List Requirement → Outcome → List ℕ
must_finding_lines musts Consistent = []
must_finding_lines musts Background = line (codes "must background")
must_finding_lines musts (Explained parts) = must_parts_lines musts parts
must_finding_lines musts (LimitAt found_in key before) = must_parts_lines musts before ++ codes "must " ++ limit_line found_in key

-- ---- the whole

-- the report on a model and a configuration, with the outcome of the job, which lists up to a size or not at all, that of the
-- second job where there was one, and the counts of both together
abbrev pub report : FeatureModel → Configuration → Option ℕ → Outcome → Option Outcome → Counted → List ℕ
report model config list first second counted =
    line (codes "diag 1") ++ model_line model ++ requirements_line config.requirements ++ musts_line config.musts
    ++ line (codes "result " ++ result_word first) ++ if_known (must_finding_lines config.musts) second
    ++ finding_lines config.requirements list first ++ checks_line counted.checks counted.predicted counted.wasted ++ line (codes "end")
