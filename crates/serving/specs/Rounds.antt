-- A round of postings on the table: between two turns, and where a turn's orders are to be carried out. The posting and the
-- orders are those of the look-ahead; what is said of the table is what its main seat knows. Own to this project.
use Rattle.std.specs.Prelude.{◌≡◌, ◌-◌, ◌<◌, ◌≤◌, true, false, List, [], ◌++◌, length, drop, All, Contains}
use mathlib.Core.Option.{some}
use lib.ListN.{get_elem?}
use Rattle.lists.specs.Distinct.{IsDistinct}
use Rattle.req_keys.specs.Key.{PositionSet}
use Rattle.look_ahead.specs.Posting.{PostingState, numbers_of}
use Rattle.look_ahead.specs.declared.orders.Orders.{Orders}
use Rattle.check_table.specs.Found.{IsWanted}
use Rattle.check_table.specs.declared.view.MainView.{MainView}
use Rattle.serving.specs.Entries.{keys_of, StandsUnder}

-- the keys of this round: the last of all posted keys, as many as the round has taken entries
abbrev pub round_keys : PostingState → List PositionSet
round_keys posting = drop (length posting.posted - posting.taken) posting.posted

-- the posting counts its entries within its round: each live entry is one of the round's, under its key, and no two have one number
pub record IsRound (posting : PostingState) : Type 0 where
  pub within : posting.taken ≤ posting.entries
  pub counted : posting.taken ≤ length posting.posted
  pub named : All (λ live. get_elem? (round_keys posting) live.1 ≡ some live.0) posting.live
  pub apart : IsDistinct (numbers_of posting.live)

-- between two turns: the table has as many entries as a round, its entries are the round's, in order, and each live one stands
-- under its key, neither cancelled nor taken
pub record IsHeld (main : MainView) (posting : PostingState) : Type 0 where
  pub round : IsRound posting
  pub size : posting.entries ≡ main.size
  pub keys : keys_of main.entries ≡ round_keys posting
  pub live : All (λ live. StandsUnder main.entries live.1 live.0) posting.live

-- where the orders of a turn, which is entered in the posting, are to be carried out
pub record AreReady (main : MainView) (posting : PostingState) (orders : Orders) : Type 0 where
  pub round : IsRound posting
  pub size : posting.entries ≡ main.size
  -- the entries and then the keys to post are the round's, in order
  pub keys : keys_of main.entries ++ orders.post ≡ round_keys posting
  pub over : All (λ key. key.n ≡ length main.problem.roots) orders.post
  -- what is live and posted already stands under its key, neither cancelled nor taken
  pub live : All (λ live. live.1 < length main.entries → StandsUnder main.entries live.1 live.0) posting.live
  -- a new round begins on a table without an entry
  pub begins : orders.new_round ≡ true → main.entries ≡ []
  -- in the same round each entry to cancel is there, neither cancelled nor taken; it is ordered once, and isn't live any more
  pub wanted : orders.new_round ≡ false → All (IsWanted main) orders.cancel
  pub once : orders.new_round ≡ false → IsDistinct orders.cancel
  pub others : orders.new_round ≡ false → All (λ live. ¬ Contains orders.cancel live.1) posting.live
