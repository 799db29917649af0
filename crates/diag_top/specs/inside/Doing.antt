-- What does the jobs: a closure that is called with the problem, the plan, the number of workers and how many answers are guessed
-- ahead. What a job finishes with is determined by all of these but the number of workers, so one closure does it on this thread and
-- another by workers.
use Rattle.std.specs.Prelude.{◌≡◌, ℕ, ◌≤◌, length, Some, Option, IfSome, Result, IfOk}
use Rattle.std.specs.Borrow.{Bor}
use Rattle.std.specs.declared.alloc.AllocError.{AllocError}
use Rattle.clauses.specs.Problem.{ClauseProblem}
use Rattle.look_ahead.specs.Posting.{wasted_in}
use Rattle.look_ahead.specs.Postings.{posting}
use Rattle.script.specs.declared.job.JobPlan.{JobPlan}
use Rattle.script.specs.declared.run.Finished.{Finished}
use Rattle.script.specs.Sequential.{needs, result_of, verdicts_of}
use Rattle.diag_top.specs.Answer.{ENTRIES}

-- a job that may be asked for
pub record MayAsk (problem : ClauseProblem) (plan : JobPlan) (workers ahead : ℕ) : Type 0 where
  pub few : workers ≤ 64
  pub near : ahead ≤ 6
  pub positions : plan.requirements ≡ length problem.roots
  pub list : IfSome plan.list (λ size. size ≤ 4096)

-- what a job comes to, whoever makes its checks
pub record IsFinished (problem : ClauseProblem) (plan : JobPlan) (ahead : ℕ) (finished : Finished) : Type 0 where
  pub planned : finished.plan ≡ plan
  pub outcome : result_of plan (verdicts_of problem) ≡ Some finished.outcome
  pub used : finished.used ≡ needs plan (verdicts_of problem)
  pub posted : finished.posted ≡ (posting plan (verdicts_of problem) ahead ENTRIES).posted
  pub wasted : finished.wasted ≡ wasted_in (posting plan (verdicts_of problem) ahead ENTRIES)

-- every job that may be asked for is taken
abbrev pub TakesJobs : (Bor ClauseProblem → JobPlan → ℕ → ℕ → Type 0) → Type 0
TakesJobs takes = (problem : Bor ClauseProblem) (plan : JobPlan) (workers ahead : ℕ) → MayAsk problem.now plan workers ahead → takes problem plan workers ahead

-- and what comes of it is so
abbrev pub DoesJobs : (Bor ClauseProblem → JobPlan → ℕ → ℕ → Result Finished AllocError → Type 0) → Type 0
DoesJobs does = (problem : Bor ClauseProblem) (plan : JobPlan) (workers ahead : ℕ) (result : Result Finished AllocError)
    → MayAsk problem.now plan workers ahead → does problem plan workers ahead result → IfOk result (IsFinished problem.now plan ahead)
