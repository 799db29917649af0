-- Where a run of a job stands: which part asks, and what was found before it.
use Rattle.std.specs.Prelude.{◌≡◌, ◌≤◌, ℕ, List, Some, IfSome}
use Rattle.std.specs.List.{range_with_len}
use Rattle.pref_sets.specs.Answers.{Next}
use Rattle.pref_sets.specs.Answers.Next.{Ask, Done}
use Rattle.pref_sets.specs.FastDiag.{fd}
use Rattle.pref_sets.specs.QuickXplain.{qx}
use Rattle.fast_diag.specs.Diagnosing.{Diagnosing}
use Rattle.fast_diag.specs.Diagnosing as diagnosing
use Rattle.hs_tree.specs.Hitting.{Hitting, next_after}
use Rattle.quick_xplain.specs.Explaining.{Explaining}
use Rattle.quick_xplain.specs.Explaining as explaining
use Rattle.req_keys.specs.Key.{PositionSet, empty_key, full_key}
use Rattle.req_keys.specs.Wanting.{key_over}
use Rattle.req_keys.specs.declared.verdict.Verdict.TheVariants as verdict
use Rattle.script.specs.declared.job.JobPlan.{JobPlan}
use Rattle.script.specs.declared.job.Part.{Part}
use Rattle.script.specs.declared.job.Part.TheVariants as part
use Rattle.script.specs.declared.stage.Stage.{Stage}
use Rattle.script.specs.declared.stage.Stage.TheVariants as stage
use Rattle.script.specs.Job.{Told, asks, ends, answers_of, verdict_in, want}
use Rattle.script.specs.inside.Going.{HasAll, IsTable}

-- all positions together are Unsat, and the empty set is Sat
pub record IsBeyond (n : ℕ) (told : Told) : Type 0 where
  pub all : verdict_in told (full_key n) ≡ Some verdict.Unsat
  pub background : verdict_in told (empty_key n) ≡ Some verdict.Sat

-- the kept set was found
pub record HasKept (n : ℕ) (told : Told) (kept : PositionSet) : Type 0 where
  pub beyond : IsBeyond n told
  pub size : kept.n ≡ n
  pub found : fd (range_with_len 1 n) (answers_of told) ≡ Done kept.members

-- the conflict was found too
pub record HasConflict (n : ℕ) (told : Told) (kept conflict : PositionSet) : Type 0 where
  pub behind : HasKept n told kept
  pub size : conflict.n ≡ n
  pub found : qx (range_with_len 1 n) (answers_of told) ≡ Done conflict.members

-- FastDiag over the positions, which was told nothing else than what was told
pub record IsKeeping (n : ℕ) (told : Told) (state : Diagnosing) : Type 0 where
  pub beyond : IsBeyond n told
  pub size : state.n ≡ n
  pub has : HasAll state.told (answers_of told)

-- QuickXplain over all positions, likewise
pub record IsExplaining (n : ℕ) (told : Told) (kept : PositionSet) (state : Explaining) : Type 0 where
  pub behind : HasKept n told kept
  pub among : state.among ≡ full_key n
  pub has : HasAll state.told (answers_of told)

-- the tree from the conflict, likewise
pub record IsListing (plan : JobPlan) (told : Told) (kept conflict : PositionSet) (state : Hitting) : Type 0 where
  pub behind : HasConflict plan.requirements told kept conflict
  pub first : state.first ≡ conflict
  pub most : plan.list ≡ Some state.most
  pub has : HasAll state.told (answers_of told)

-- the set that a part asks is what the job wants
abbrev pub IsWanted : JobPlan → Told → Part → Next → Type 0
IsWanted plan told part next = (set : List ℕ) × (next ≡ Ask set) × (want plan told ≡ asks part (key_over plan.requirements set))

-- the run stands there
abbrev pub IsAt : JobPlan → Told → Stage → Type 0
IsAt plan told (stage.All key) = want plan told ≡ asks part.All key
IsAt plan told (stage.Background key) = want plan told ≡ asks part.Background key
IsAt plan told (stage.Kept state) =
    IsKeeping plan.requirements told state × IsWanted plan told part.Kept (diagnosing.next_of state)
IsAt plan told (stage.Conflict kept state) =
    IsExplaining plan.requirements told kept state × IsWanted plan told part.Conflict (explaining.next_of state)
IsAt plan told (stage.Listing kept conflict state) =
    IsListing plan told kept conflict state × IsWanted plan told part.Listing (next_after state)
IsAt plan told (stage.Done outcome) = want plan told ≡ ends outcome

-- a plan that a run may have
pub record IsPlan (plan : JobPlan) : Type 0 where
  pub requirements : plan.requirements ≤ 4096
  pub list : IfSome plan.list (λ most. most ≤ 4096)

-- what a run keeps
pub record Stands (plan : JobPlan) (told : Told) (stage : Stage) : Type 0 where
  pub plan_is : IsPlan plan
  pub table : IsTable plan.requirements told
  pub at : IsAt plan told stage
