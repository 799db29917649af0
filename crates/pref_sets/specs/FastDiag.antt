-- FastDiag over a table of answers (Felfernig, Schubert and Zehentner 2012): the kept set by divide and conquer.
use Rattle.std.specs.Prelude.{ℕ, zero, suc, Bool, true, false, List, [], ◌∷◌, length}
use Rattle.pref_sets.specs.Positions.{union, lower_half, upper_half}
use Rattle.pref_sets.specs.Answers.{Answer, Next, Done, same_set, answer_to, by_answer, and_then}

-- all positions, if they are Sat with the background, and else what is left to find; `known` says that they are Unsat
abbrev pub unless_sat : List Answer → List ℕ → List ℕ → Bool → Next → Next
unless_sat table positions background true left = left
unless_sat table positions background false left =
    by_answer (union background positions) (answer_to table (union background positions)) (Done positions) left

-- what is kept of the positions behind a background, where `known` says that all of them with the background are
-- known to be Unsat. If that isn't known it is asked, and after Sat all are kept. Else of one position nothing is
-- kept. Of more, first the lower half is done behind the background, and then the upper half behind the background
-- and what is kept of the lower half; if that is all of it, what the upper half asks first is known. `count` bounds
-- how deep this goes; the number of positions is enough
abbrev pub fd_part : ℕ → List Answer → List ℕ → List ℕ → Bool → Next
fd_part zero table positions background known = Done []
fd_part (suc count) table [] background known = Done []
fd_part (suc count) table (position ∷ []) background known =
    unless_sat table (position ∷ []) background known (Done [])
fd_part (suc count) table positions background known =
    unless_sat table positions background known
    (and_then (fd_part count table (lower_half positions) background false) (λ lower.
    and_then (fd_part count table (upper_half positions) (union background lower) (same_set lower (lower_half positions))) (λ upper.
    Done (union lower upper))))

-- what FastDiag keeps of the positions behind a background
abbrev pub fd_behind : List Answer → List ℕ → List ℕ → Bool → Next
fd_behind table positions background known = fd_part (length positions) table positions background known

-- FastDiag: what is kept of the positions, of which all together are known to be Unsat
abbrev pub fd : List ℕ → List Answer → Next
fd positions table = fd_behind table positions [] true
