-- The sequential run of a job: nothing is told at first, and then each key that is wanted is told with its verdict, until the
-- job ends. Verdicts are a function of keys: in use, what the search answers on a problem. Own to this project.
use Rattle.std.specs.Prelude.{◌≡◌, ℕ, zero, suc, ◌^◌, [], ◌∷◌, ◌++◌, Option, Some, None}
use Rattle.req_keys.specs.Key.{PositionSet}
use Rattle.req_keys.specs.declared.verdict.Verdict.{Verdict}
use Rattle.req_keys.specs.declared.verdict.Verdict.TheVariants as verdict
use Rattle.clauses.specs.Problem.{ClauseProblem}
use Rattle.clauses.specs.Search.{verdict_on}
use Rattle.script.specs.declared.job.JobPlan.{JobPlan}
use Rattle.script.specs.declared.job.Outcome.{Outcome}
use Rattle.script.specs.Job.{Told, Wanted, asks, ends, want}

-- what was told, and what follows where a key is wanted
abbrev pub by_want : Wanted → Told → (PositionSet → Told) → Told
by_want (asks part key) told follow = follow key
by_want (ends outcome) told follow = told

-- what was told, and then at most so many pairs more
abbrev pub told_within : ℕ → JobPlan → (PositionSet → Verdict) → Told → Told
told_within zero plan verdict told = told
told_within (suc count) plan verdict told =
    by_want (want plan told) told (λ key. told_within count plan verdict (told ++ (key, verdict key) ∷ []))

-- there are no more sets of the positions than that, and none is asked twice
abbrev pub check_count : JobPlan → ℕ
check_count plan = 2 ^ plan.requirements

-- the checks that the job needs, each with its verdict, in their order
abbrev pub needs : JobPlan → (PositionSet → Verdict) → Told
needs plan verdict = told_within (check_count plan) plan verdict []

-- the run comes to these pairs: so far each key that was wanted was told with its verdict, and nothing else
abbrev pub IsSoFar : JobPlan → (PositionSet → Verdict) → Told → Type 0
IsSoFar plan verdict told = (count : ℕ) × (told_within count plan verdict [] ≡ told)

-- the outcome, where the job has ended
abbrev pub outcome_of : Wanted → Option Outcome
outcome_of (asks part key) = None
outcome_of (ends outcome) = Some outcome

-- how the job ends
abbrev pub result_of : JobPlan → (PositionSet → Verdict) → Option Outcome
result_of plan verdict = outcome_of (want plan (needs plan verdict))

-- the verdict itself, where there always is one
abbrev pub known_verdict : Option Verdict → Verdict
known_verdict (Some verdict) = verdict
known_verdict None = verdict.Limit

-- the verdicts of a problem
abbrev pub verdicts_of : ClauseProblem → PositionSet → Verdict
verdicts_of problem key = known_verdict (verdict_on problem key)
