-- QuickXplain over a table of answers (Junker 2004): the preferred conflict by divide and conquer.
use Rattle.std.specs.Prelude.{ℕ, zero, suc, List, [], ◌∷◌, length}
use Rattle.pref_sets.specs.Positions.{union, lower_half, upper_half}
use Rattle.pref_sets.specs.Answers.{Answer, Next, Done, answer_to, by_answer, and_then}

-- nothing, if the background is Unsat by itself, and else what is left to find; it is asked only where something
-- was added to it
abbrev pub unless_unsat : List Answer → List ℕ → List ℕ → Next → Next
unless_unsat table background [] left = left
unless_unsat table background (position ∷ added) left =
    by_answer background (answer_to table background) left (Done [])

-- what of the positions belongs to the conflict behind a background, to which `added` was added last. If something
-- was, the background is asked, and after Unsat nothing belongs to it. Else one position does. Of more, first the
-- upper half is done behind the background and the lower half, and then the lower half behind the background and
-- what belongs to the conflict of the upper half. `count` bounds how deep this goes; the number of positions is enough
abbrev pub qx_part : ℕ → List Answer → List ℕ → List ℕ → List ℕ → Next
qx_part zero table background added positions = Done []
qx_part (suc count) table background added [] = Done []
qx_part (suc count) table background added (position ∷ []) =
    unless_unsat table background added (Done (position ∷ []))
qx_part (suc count) table background added positions =
    unless_unsat table background added
    (and_then (qx_part count table (union background (lower_half positions)) (lower_half positions) (upper_half positions)) (λ upper.
    and_then (qx_part count table (union background upper) upper (lower_half positions)) (λ lower.
    Done (union lower upper))))

-- what of the positions belongs to QuickXplain's conflict behind a background
abbrev pub qx_behind : List Answer → List ℕ → List ℕ → List ℕ → Next
qx_behind table background added positions = qx_part (length positions) table background added positions

-- QuickXplain: the conflict of the positions, of which all together are known to be Unsat
abbrev pub qx : List ℕ → List Answer → Next
qx positions table = qx_behind table [] [] positions
