-- What contracts see of QuickXplain as a state: the start set and the answers told so far.
use Rattle.std.specs.Prelude.{List}
use Rattle.pref_sets.specs.Answers.{Answer, Next}
use Rattle.pref_sets.specs.QuickXplain.{qx}
use Rattle.req_keys.specs.Key.{PositionSet}

-- the start set, and the told answers in order, each on the set that was asked
pub record Explaining : Type 0 where
  pub among : PositionSet
  pub told : List Answer

-- what QuickXplain over the start set comes to after the told answers
abbrev pub next_of : Explaining → Next
next_of state = qx state.among.members state.told
