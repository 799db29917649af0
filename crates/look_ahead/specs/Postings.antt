-- What a whole job posts ahead: the turns over its sequential run, one for each check that it needs. No worker stands in it. Own
-- to this project.
use Rattle.std.specs.Prelude.{ℕ, [], ◌∷◌, ◌++◌, Option}
use Rattle.req_keys.specs.Key.{PositionSet}
use Rattle.req_keys.specs.declared.verdict.Verdict.{Verdict}
use Rattle.script.specs.Job.{Told, want}
use Rattle.script.specs.Running.{key_in}
use Rattle.script.specs.Sequential.{needs}
use Rattle.script.specs.declared.job.JobPlan.{JobPlan}
use Rattle.look_ahead.specs.Ahead.{keys_ahead}
use Rattle.look_ahead.specs.Posting.{PostingState, after_turn, nothing_posted, settled_by}

-- the key that the job asks over the told pairs
abbrev pub wants_of : JobPlan → Told → Option PositionSet
wants_of plan told = key_in (want plan told)

-- the turn in which the key is asked after the told pairs
abbrev pub turn_at : JobPlan → ℕ → Told → PositionSet → PostingState → PostingState
turn_at plan depth told key state = settled_by key (after_turn key (keys_ahead (wants_of plan) told depth) state)

-- the turns in which the further pairs are told, after the told ones
abbrev pub turns_over : JobPlan → ℕ → Told → Told → PostingState → PostingState
turns_over plan depth told [] state = state
turns_over plan depth told (pair ∷ more) state = turns_over plan depth (told ++ pair ∷ []) more (turn_at plan depth told pair.0 state)

-- all turns of the sequential run: what is posted in it stands in `posted`, and how much of it was never settled in `wasted_in`
abbrev pub posting : JobPlan → (PositionSet → Verdict) → ℕ → ℕ → PostingState
posting plan verdict depth entries = turns_over plan depth [] (needs plan verdict) (nothing_posted entries)
