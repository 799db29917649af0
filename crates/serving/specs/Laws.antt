-- How the turns of a job follow each other on its tables. Own to this project.
use Rattle.std.specs.Prelude.{◌≡◌, ℕ, true, false, List, [], ◌∷◌, length, slice_index, All, Some}
use Rattle.req_keys.specs.Key.{PositionSet}
use Rattle.clauses.specs.Problem.{ClauseProblem}
use Rattle.board.specs.declared.state.Board.{Board}
use Rattle.board.specs.Events.{new_round}
use Rattle.look_ahead.specs.Posting.{PostingState, after_turn, nothing_posted, orders_of}
use Rattle.look_ahead.specs.declared.orders.Orders.{Orders}
use Rattle.check_table.specs.Board.{board_of}
use Rattle.check_table.specs.Rule.{opened}
use Rattle.check_table.specs.declared.view.MainView.{MainView}
use Rattle.check_table.specs.declared.view.View.TheVariants.{Main}
use Rattle.serving.specs.Rounds.{AreReady, IsHeld}

-- a turn that asks a key, with a list of keys over n positions, led from the one posting to the other, and gave these orders
pub record IsTurn (n : ℕ) (before after : PostingState) (orders : Orders) (asked : PositionSet) (list : List PositionSet) : Type 0 where
  pub positions : All (λ key. key.n ≡ n) list
  pub turned : after ≡ after_turn asked list before
  pub ordered : orders ≡ orders_of asked list before

-- in the same round the orders can be carried out where the turn before left the table
abbrev pub TurnsFollow : Type 0
TurnsFollow = (main : MainView) (before after : PostingState) (orders : Orders) (asked : PositionSet) (list : List PositionSet)
    → IsHeld main before → IsTurn (length main.problem.roots) before after orders asked list → orders.new_round ≡ false
    → AreReady main after orders

-- a table without an entry holds the first round before its first turn
abbrev pub FirstRoundBegins : Type 0
FirstRoundBegins = (main : MainView) (entries : ℕ) → main.entries ≡ [] → main.size ≡ entries → IsHeld main (nothing_posted entries)

-- the first turn begins no new round
abbrev pub FirstTurnFollows : Type 0
FirstTurnFollows = (entries : ℕ) (asked : PositionSet) (list : List PositionSet) → (orders_of asked list (nothing_posted entries)).new_round ≡ false

-- where a new round begins, the orders can be carried out on any table without an entry that has as many as a round
abbrev pub RoundsBegin : Type 0
RoundsBegin = (main : MainView) (before after : PostingState) (orders : Orders) (asked : PositionSet) (list : List PositionSet)
    → main.entries ≡ [] → main.size ≡ before.entries → IsTurn (length main.problem.roots) before after orders asked list → orders.new_round ≡ true
    → AreReady main after orders

-- a new round of a board with 64 workers leads to the board that a new table stands for, with as many entries
abbrev pub NewTablesStand : Type 0
NewTablesStand = (problem : ClauseProblem) (before after : Board) (words : List ℕ)
    → length before.tickets ≡ 64 → new_round before ≡ Some after → ((i : ℕ) → slice_index words i ≡ 0)
    → board_of problem before.size (record { words = words; homes = []; views = Main (opened problem before.size) ∷ [] }) ≡ after
