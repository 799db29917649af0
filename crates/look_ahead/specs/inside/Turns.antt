-- A turn on the parts of a `Posting` that it reads, and what a `Posting` keeps.
use Rattle.std.specs.Prelude.{◌≡◌, ◌+◌, ◌≤◌, ℕ, List, [], length}
use Rattle.req_keys.specs.Key.{PositionSet}
use Rattle.look_ahead.specs.Posting.{PostingState, after_turn, orders_of}
use Rattle.look_ahead.specs.declared.posting.Turn.{Turn}

-- a round, with nothing of the rounds before
abbrev pub round_of : ℕ → List (PositionSet × ℕ) → ℕ → PostingState
round_of entries live taken = record { entries = entries; live = live; taken = taken; posted = []; settled = 0 }

-- the turn is what the definition says
pub record IsTurn (state : PostingState) (asked : PositionSet) (list : List PositionSet) (turn : Turn) : Type 0 where
  pub orders : turn.orders ≡ orders_of asked list state
  pub live : turn.live.entries ≡ (after_turn asked list state).live
  pub taken : turn.taken ≡ (after_turn asked list state).taken

-- what a `Posting` keeps
pub record IsPosting (state : PostingState) : Type 0 where
  pub most : state.entries ≤ 4096
  pub within : state.taken ≤ state.entries
  pub counted : state.settled + length state.live ≤ length state.posted
