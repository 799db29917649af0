-- What contracts see of a job that runs: its plan and the told pairs.
use Rattle.std.specs.Prelude.{Option, Some, None}
use Rattle.req_keys.specs.Key.{PositionSet}
use Rattle.script.specs.declared.job.JobPlan.{JobPlan}
use Rattle.script.specs.Job.{Told, Wanted, asks, ends, want}

pub record Running : Type 0 where
  pub plan : JobPlan
  pub told : Told

-- what is wanted after the told pairs
abbrev pub want_after : Running → Wanted
want_after run = want run.plan run.told

-- the key that is asked
abbrev pub key_in : Wanted → Option PositionSet
key_in (asks part key) = Some key
key_in (ends outcome) = None

-- a key is asked
abbrev pub IsAsking : Wanted → Type 0
IsAsking (asks part key) = Unit {0}
IsAsking (ends outcome) = ⊥

-- the job has ended
abbrev pub IsEnded : Wanted → Type 0
IsEnded (asks part key) = ⊥
IsEnded (ends outcome) = Unit {0}
