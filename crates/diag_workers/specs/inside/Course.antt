-- A job under way, seen between two steps of its turns.
use Rattle.std.specs.Prelude.{◌≡◌, ◌⊎◌, ℕ, true, [], List, Option, Some, None}
use Rattle.clauses.specs.Problem.{ClauseProblem}
use Rattle.req_keys.specs.Key.{PositionSet}
use Rattle.look_ahead.specs.Ahead.{keys_ahead}
use Rattle.look_ahead.specs.Posting.{PostingState, after_turn, nothing_posted, orders_of}
use Rattle.look_ahead.specs.Postings.{turns_over, wants_of}
use Rattle.look_ahead.specs.declared.orders.Orders.{Orders}
use Rattle.script.specs.Running.{Running, IsEnded, key_in, want_after}
use Rattle.script.specs.Sequential.{IsSoFar, verdicts_of}

-- what the turns so far have posted
abbrev pub posted_so_far : ℕ → ℕ → Running → PostingState
posted_so_far depth entries run = turns_over run.plan depth [] run.told (nothing_posted entries)

-- the keys that are guessed ahead now
abbrev pub guessed : ℕ → Running → List PositionSet
guessed depth run = keys_ahead (wants_of run.plan) run.told depth

-- between two turns: so far each key that was wanted was told with its verdict, and nothing else, and each had its turn
pub record IsBetween (problem : ClauseProblem) (depth entries : ℕ) (run : Running) (posting : PostingState) : Type 0 where
  pub far : IsSoFar run.plan (verdicts_of problem) run.told
  pub turns : posting ≡ posted_so_far depth entries run

-- the next turn has begun: its orders are entered in the posting, and its key isn't told yet
pub record IsOrdered (problem : ClauseProblem) (depth entries : ℕ) (run : Running) (posting : PostingState) (orders : Orders) : Type 0 where
  pub key : PositionSet
  pub asks : key_in (want_after run) ≡ Some key
  pub far : IsSoFar run.plan (verdicts_of problem) run.told
  pub turned : posting ≡ after_turn key (guessed depth run) (posted_so_far depth entries run)
  pub ordered : orders ≡ orders_of key (guessed depth run) (posted_so_far depth entries run)

-- the next turn has begun, or the job is done
abbrev pub IsNext : ClauseProblem → ℕ → ℕ → Running → PostingState → Option Orders → Type 0
IsNext problem depth entries run posting None = IsBetween problem depth entries run posting × IsEnded (want_after run)
IsNext problem depth entries run posting (Some orders) = IsOrdered problem depth entries run posting orders

-- the turn that has begun is the first one of a round, where there is one
abbrev pub BeginsRound : Running → Option Orders → Type 0
BeginsRound run None = Unit {0}
BeginsRound run (Some orders) = (orders.new_round ≡ true) ⊎ (run.told ≡ [])
