-- Where the turn that has begun can be served.
use Rattle.std.specs.Prelude.{Option, Some, None}
use Rattle.look_ahead.specs.Posting.{PostingState}
use Rattle.look_ahead.specs.declared.orders.Orders.{Orders}
use Rattle.check_table.specs.declared.view.MainView.{MainView}
use Rattle.serving.specs.Rounds.{AreReady}

-- there is a turn, and its orders can be carried out on the table that the seat knows
abbrev pub IsReady : MainView → PostingState → Option Orders → Type 0
IsReady main posting None = ⊥
IsReady main posting (Some orders) = AreReady main posting orders
