-- What contracts see of the tree as a state: the conflict that is known from the start, the greatest size of a diagnosis, and
-- the answers told so far.
use Rattle.std.specs.Prelude.{ℕ, List}
use Rattle.pref_sets.specs.Answers.{Answer, Next}
use Rattle.req_keys.specs.Key.{PositionSet}
use Rattle.hs_tree.specs.Tree.{Outcome, tree, found_by, next_of}

-- the told answers stand in order, each on the set that was asked
pub record Hitting : Type 0 where
  pub first : PositionSet
  pub most : ℕ
  pub told : List Answer

-- what the tree over a table asks next, from this conflict and up to this size
abbrev pub next_over : PositionSet → ℕ → List Answer → Next
next_over first most table = next_of (tree first.n first.members most table)

-- what the tree comes to after the told answers
abbrev pub outcome_of : Hitting → Outcome
outcome_of state = tree state.first.n state.first.members state.most state.told

-- what it asks next
abbrev pub next_after : Hitting → Next
next_after state = next_of (outcome_of state)

-- the diagnoses that it has found
abbrev pub found_after : Hitting → List (List ℕ)
found_after state = found_by (outcome_of state)
