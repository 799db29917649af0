-- Worked examples of the state. Each computes.
use Rattle.std.specs.Prelude.{◌≡◌, ℕ, Bool, true, false, Some, None, List, [], ◌∷◌, refl}
use Rattle.pref_sets.specs.Answers.{Answer, Done, told_in_turn}
use Rattle.pref_sets.specs.AskedKey.{asked_key}
use Rattle.pref_sets.specs.QuickXplain.{qx}
use Rattle.req_keys.specs.Wanting.{key_over}
use Rattle.quick_xplain.specs.Explaining.{Explaining, next_of}

-- the state over this start set among n positions after these answers
abbrev after : ℕ → List ℕ → List Bool → Explaining
after n members sats = record { among = key_over n members; told = told_in_turn (qx members) [] sats }

-- an answer on a set
abbrev on : List ℕ → Bool → Answer
on set sat = record { set = set; sat = sat }

-- of one position nothing is asked: it is the conflict
pub one-done : next_of (after 1 (1 ∷ []) []) ≡ Done (1 ∷ [])
one-done = refl

-- 1 and 2 of three don't go together: the upper half of {2,3} is asked first, and 3 doesn't belong to the conflict
pub three-first : asked_key 3 (next_of (after 3 (1 ∷ 2 ∷ 3 ∷ []) [])) ≡ Some (key_over 3 (1 ∷ []))
three-first = refl

pub three-told :
    (after 3 (1 ∷ 2 ∷ 3 ∷ []) (true ∷ false ∷ true ∷ [])).told
    ≡ on (1 ∷ []) true ∷ on (1 ∷ 2 ∷ []) false ∷ on (2 ∷ []) true ∷ []
three-told = refl

pub three-conflict : next_of (after 3 (1 ∷ 2 ∷ 3 ∷ []) (true ∷ false ∷ true ∷ [])) ≡ Done (1 ∷ 2 ∷ [])
three-conflict = refl

pub three-ended : asked_key 3 (next_of (after 3 (1 ∷ 2 ∷ 3 ∷ []) (true ∷ false ∷ true ∷ []))) ≡ None
three-ended = refl

-- 1 and 3 of four don't go together, and 2 and 4 don't: the conflict is the one that the most important positions have
pub opposites-told :
    (after 4 (1 ∷ 2 ∷ 3 ∷ 4 ∷ []) (true ∷ false ∷ true ∷ false ∷ [])).told
    ≡ on (1 ∷ 2 ∷ []) true ∷ on (1 ∷ 2 ∷ 3 ∷ []) false ∷ on (3 ∷ []) true ∷ on (1 ∷ 3 ∷ []) false ∷ []
opposites-told = refl

pub opposites-conflict : next_of (after 4 (1 ∷ 2 ∷ 3 ∷ 4 ∷ []) (true ∷ false ∷ true ∷ false ∷ [])) ≡ Done (1 ∷ 3 ∷ [])
opposites-conflict = refl

-- any three of four go together, and all four don't
pub three_of_four-told :
    (after 4 (1 ∷ 2 ∷ 3 ∷ 4 ∷ []) (true ∷ true ∷ true ∷ true ∷ true ∷ true ∷ [])).told
    ≡ on (1 ∷ 2 ∷ []) true ∷ on (1 ∷ 2 ∷ 3 ∷ []) true ∷ on (1 ∷ 2 ∷ 4 ∷ []) true ∷ on (3 ∷ 4 ∷ []) true
    ∷ on (1 ∷ 3 ∷ 4 ∷ []) true ∷ on (2 ∷ 3 ∷ 4 ∷ []) true ∷ []
three_of_four-told = refl

pub three_of_four-conflict :
    next_of (after 4 (1 ∷ 2 ∷ 3 ∷ 4 ∷ []) (true ∷ true ∷ true ∷ true ∷ true ∷ true ∷ [])) ≡ Done (1 ∷ 2 ∷ 3 ∷ 4 ∷ [])
three_of_four-conflict = refl

-- a start set that is no range: 2 and 9 don't go together
pub apart-told :
    (after 9 (2 ∷ 5 ∷ 9 ∷ []) (true ∷ true ∷ false ∷ true ∷ [])).told
    ≡ on (2 ∷ []) true ∷ on (2 ∷ 5 ∷ []) true ∷ on (2 ∷ 9 ∷ []) false ∷ on (9 ∷ []) true ∷ []
apart-told = refl

pub apart-conflict : next_of (after 9 (2 ∷ 5 ∷ 9 ∷ []) (true ∷ true ∷ false ∷ true ∷ [])) ≡ Done (2 ∷ 9 ∷ [])
apart-conflict = refl

-- the answer is as told, also where it can't be: after Unsat at once nothing of the upper half belongs to the conflict
pub unsat-conflict : next_of (after 3 (1 ∷ 2 ∷ 3 ∷ []) (false ∷ [])) ≡ Done (1 ∷ [])
unsat-conflict = refl

-- an answer after the last changes nothing
pub after_last : (after 3 (1 ∷ 2 ∷ 3 ∷ []) (false ∷ true ∷ [])).told ≡ (after 3 (1 ∷ 2 ∷ 3 ∷ []) (false ∷ [])).told
after_last = refl
