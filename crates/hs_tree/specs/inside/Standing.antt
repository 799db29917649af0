-- How what the state keeps goes together with the told answers.
use Rattle.std.specs.Prelude.{◌≡◌, ℕ, Option, Some, None, List, []}
use Rattle.pref_sets.specs.Answers.{Answer, Ask, IsToldInTurn}
use Rattle.pref_sets.specs.AskedKey.{asked_key}
use Rattle.req_keys.specs.Key.{PositionSet, IsKey}
use Rattle.quick_xplain.specs.Explaining.{next_of}
use Rattle.hs_tree.specs.declared.levels.Level.{Level}
use Rattle.hs_tree.specs.declared.sets.Asking.{Asking}
use Rattle.hs_tree.specs.declared.sets.Asking.TheVariants as asking
use Rattle.hs_tree.specs.declared.state.State.{State}
use Rattle.hs_tree.specs.Tree.{tree}
use Rattle.hs_tree.specs.Hitting.{next_over}
use Rattle.hs_tree.specs.inside.Left.{IsHere, IsIn, IsOnlyLast, left}
use Rattle.hs_tree.specs.inside.Steps.{IsLabelOf}
use Rattle.hs_tree.specs.inside.Told.{AreToldOver, HasAll, IsOver, answers_of}

-- the set is asked
abbrev pub AsksSet : Asking → List ℕ → Type 0
AsksSet (asking.Rest rest) set = rest.members ≡ set
AsksSet (asking.Label label) set = next_of label ≡ Ask set

-- the key that is wanted for a set
abbrev pub wanted_by : Asking → Option PositionSet
wanted_by (asking.Rest rest) = Some rest
wanted_by (asking.Label label) = asked_key label.among.n (next_of label)

-- a set waits, though its answer may be told by now
abbrev pub IsWaitingFor : ℕ → List Answer → Asking → Type 0
IsWaitingFor n told (asking.Rest rest) = IsOver n rest
IsWaitingFor n told (asking.Label label) = IsLabelOf n told label

-- the parts of the state go together
pub record IsSound (state : State) : Type 0 where
  pub over : AreToldOver state.level.n state.told
  pub inside : IsIn state.level state.found
  pub here : IsHere (answers_of state.told) state.level state.found state.asking
  pub last : IsOnlyLast state.level state.asking

-- the state is that of the tree over the told answers
pub record Stands (first : PositionSet) (most : ℕ) (state : State) : Type 0 where
  pub key : IsKey first
  pub number : state.level.n ≡ first.n
  pub sound : IsSound state
  pub turns : IsToldInTurn (next_over first most) [] (answers_of state.told)
  pub goes : (table : List Answer) → HasAll (answers_of state.told) table →
      tree first.n first.members most table ≡ left table state.level state.found state.asking

-- the level where the tree stands after a step
abbrev pub level_after : Level → Option Level → Level
level_after level None = level
level_after level (Some deeper) = deeper
