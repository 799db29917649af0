-- What the text of an outcome shows where it is judged.
use Rattle.std.specs.Prelude.{◌≡◌, ℕ, List, [], Option, Some, None, All, length}
use Rattle.std.specs.List.{range_with_len}
use Rattle.clause_form.specs.ClauseForm.{problem_of}
use Rattle.clause_form.specs.Laws.{IsStatedOf}
use Rattle.clauses.specs.Problem.{ClauseProblem, IsProblem}
use Rattle.clauses.specs.Search.{verdict_on}
use Rattle.config_reader.specs.Configuration.{Configuration}
use Rattle.feature_tree.specs.FeatureModel.{FeatureModel}
use Rattle.req_keys.specs.Key.{PositionSet}
use Rattle.req_keys.specs.Positions.{RiseWithin}
use Rattle.req_keys.specs.Wanting.{key_over}
use Rattle.req_keys.specs.declared.verdict.Verdict.{Verdict}
use Rattle.req_keys.specs.declared.verdict.Verdict.TheVariants as verdict
use Rattle.script.specs.declared.job.JobPlan.{JobPlan}
use Rattle.script.specs.declared.job.Outcome.{Outcome}
use Rattle.script.specs.declared.job.Outcome.TheVariants as outcome
use Rattle.script.specs.Sequential.{result_of, verdicts_of}
use Rattle.certificate.specs.declared.judgement.Judgement.TheVariants.{Yes}
use Rattle.certificate.specs.declared.judgement.Shown.{Shown}
use Rattle.certificate.specs.declared.judgement.Shown.TheVariants as shown
use Rattle.certificate.specs.Judging.{judge}
use Rattle.certificate.specs.Sets.{given_up, refuted_with, met_without}
use Rattle.certificate.specs.Text.{certificate_text}
use Rattle.certificate.specs.Writing.{IsOver}

-- both sets, if they are there
abbrev pub shown_sets : Option PositionSet → Option PositionSet → Option Shown
shown_sets (Some kept) (Some conflict) = Some (shown.Explained kept conflict)
shown_sets _ _ = None

-- what an outcome says; a limit says nothing that can be shown
abbrev pub shown_by : Outcome → Option Shown
shown_by outcome.Consistent = Some shown.Consistent
shown_by outcome.Background = Some shown.Background
shown_by (outcome.Explained parts) = shown_sets parts.kept parts.conflict
shown_by (outcome.LimitAt part key before) = None

-- the search on the problem for these of n positions has this verdict
abbrev pub HasVerdict : ClauseProblem → ℕ → Verdict → List ℕ → Type 0
HasVerdict problem n verdict positions = verdict_on problem (key_over n positions) ≡ Some verdict

-- the search decides each set that the parts of a certificate are about
pub record AreDecided (problem : ClauseProblem) (n : ℕ) (kept conflict : List ℕ) : Type 0 where
  pub kept_met : HasVerdict problem n verdict.Sat kept
  pub refuted : All (λ position. HasVerdict problem n verdict.Unsat (refuted_with n kept position)) (given_up n kept)
  pub conflict_unmet : HasVerdict problem n verdict.Unsat conflict
  pub needed : All (λ member. HasVerdict problem n verdict.Sat (met_without n conflict member)) conflict
  -- both are sets of the n positions
  pub kept_rises : RiseWithin 0 n kept
  pub conflict_rises : RiseWithin 0 n conflict

-- the same of what an outcome says
abbrev pub IsDecided : ClauseProblem → ℕ → Shown → Type 0
IsDecided problem n shown.Consistent = HasVerdict problem n verdict.Sat (range_with_len 1 n)
IsDecided problem n shown.Background = HasVerdict problem n verdict.Unsat []
IsDecided problem n (shown.Explained kept conflict) = AreDecided problem n kept.members conflict.members

-- the outcome is a limit, or what it says has the property
abbrev pub UnlessLimit : Outcome → (Shown → Type 0) → Type 0
UnlessLimit outcome.Consistent P = P shown.Consistent
UnlessLimit outcome.Background P = P shown.Background
UnlessLimit (outcome.Explained parts) P = (shown : Shown) × (shown_sets parts.kept parts.conflict ≡ Some shown) × P shown
UnlessLimit (outcome.LimitAt part key before) P = Unit {0}

-- What the sequential run comes to is over its positions, and unless it is a limit the search decides each set that the
-- certificate of it is about.
abbrev pub RunIsDecided : Type 0
RunIsDecided =
    (problem : ClauseProblem) (plan : JobPlan) (found : Outcome) → result_of plan (verdicts_of problem) ≡ Some found
    → IsOver plan.requirements found × UnlessLimit found (IsDecided problem plan.requirements)

-- So what is written of its outcome is accepted, with the outcome's sets.
abbrev pub WrittenIsAccepted : Type 0
WrittenIsAccepted =
    (model : FeatureModel) (config : Configuration) (allowance rungs : ℕ) (plan : JobPlan) (found : Outcome) → IsStatedOf model config
    → IsProblem (problem_of model config allowance rungs) → plan.requirements ≡ length config.requirements
    → result_of plan (verdicts_of (problem_of model config allowance rungs)) ≡ Some found
    → UnlessLimit found (λ shown.
    judge model config (problem_of model config allowance rungs) (certificate_text model config (problem_of model config allowance rungs) found) ≡ Yes shown)
