-- Worked examples of the state. Each computes.
use Rattle.std.specs.Prelude.{◌≡◌, ℕ, Bool, true, false, Some, None, List, [], ◌∷◌, refl}
use Rattle.std.specs.List.{range_with_len}
use Rattle.pref_sets.specs.Answers.Next.{Ask, Done}
use Rattle.pref_sets.specs.FastDiag.{fd}
use Rattle.pref_sets.specs.Answers.{told_in_turn}
use Rattle.pref_sets.specs.AskedKey.{asked_key}
use Rattle.req_keys.specs.Wanting.{key_over}
use Rattle.fast_diag.specs.Diagnosing.{Diagnosing, next_of}

-- the state over n positions after these answers
abbrev after : ℕ → List Bool → Diagnosing
after n sats = record { n = n; told = told_in_turn (fd (range_with_len 1 n)) [] sats }

-- of one position nothing is asked, and nothing is kept
pub one-done : next_of (after 1 []) ≡ Done []
one-done = refl

-- of two positions the first is asked
pub two-first : asked_key 2 (next_of (after 2 [])) ≡ Some (key_over 2 (1 ∷ []))
two-first = refl

pub two-kept : (next_of (after 2 (true ∷ [])) ≡ Done (1 ∷ [])) × (asked_key 2 (next_of (after 2 (true ∷ []))) ≡ None)
two-kept = (refl, refl)

pub two-second : next_of (after 2 (false ∷ [])) ≡ Ask (2 ∷ [])
two-second = refl

-- 1 and 2 of three don't go together: the told answers are those on {1}, {1,2} and {1,3}
pub three-told :
    (after 3 (true ∷ false ∷ true ∷ [])).told
    ≡ record { set = 1 ∷ []; sat = true } ∷ record { set = 1 ∷ 2 ∷ []; sat = false } ∷ record { set = 1 ∷ 3 ∷ []; sat = true } ∷ []
three-told = refl

pub three-kept : next_of (after 3 (true ∷ false ∷ true ∷ [])) ≡ Done (1 ∷ 3 ∷ [])
three-kept = refl

-- an answer after the last changes nothing
pub three-ended : (after 3 (true ∷ true ∷ false ∷ [])).told ≡ (after 3 (true ∷ true ∷ [])).told
three-ended = refl
