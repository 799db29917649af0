-- What contracts see of FastDiag as a state: the number of positions and the answers told so far.
use Rattle.std.specs.Prelude.{ℕ, List}
use Rattle.std.specs.List.{range_with_len}
use Rattle.pref_sets.specs.Answers.{Answer, Next}
use Rattle.pref_sets.specs.FastDiag.{fd}

-- the number of positions, and the told answers in order, each on the set that was asked
pub record Diagnosing : Type 0 where
  pub n : ℕ
  pub told : List Answer

-- what FastDiag over the positions 1, 2, .., n comes to after the told answers
abbrev pub next_of : Diagnosing → Next
next_of state = fd (range_with_len 1 state.n) state.told
