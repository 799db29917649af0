-- Positions by their places: the first of ascending positions has place 1, and so on. A part of a configuration is
-- searched as one of its own, behind the rest.
use Rattle.std.specs.Prelude.{◌≡◌, ℕ, ◌-◌, Bool, Some, List, length, map, slice_index}
use Rattle.pref_sets.specs.Answers.{Answer, Next, answer_to}
use Rattle.pref_sets.specs.Answers.Next.{Ask, Done}
use Rattle.pref_sets.specs.Positions.{union}
use Rattle.req_keys.specs.Positions.{RiseWithin}

-- the positions at these places
abbrev pub at_places : List ℕ → List ℕ → List ℕ
at_places positions places = map (λ place. slice_index positions (place - 1)) places

-- on sets of places `small` answers what the table answers on the background and the positions there
abbrev pub AnswersByPlaces : List ℕ → List ℕ → List Answer → List Answer → Type 0
AnswersByPlaces positions background table small =
    (places : List ℕ) → RiseWithin 0 (length positions) places →
    answer_to small places ≡ answer_to table (union background (at_places positions places))

-- where `small` has an answer on a set of places, the table answers the same on the background and the positions there
abbrev pub AnswersSomeByPlaces : List ℕ → List ℕ → List Answer → List Answer → Type 0
AnswersSomeByPlaces positions background table small =
    (places : List ℕ) (sat : Bool) → RiseWithin 0 (length positions) places →
    answer_to small places ≡ Some sat → answer_to table (union background (at_places positions places)) ≡ Some sat

-- what a recursion over the places gives, in the positions: it asks a set behind the background
abbrev pub next_at_places : List ℕ → List ℕ → Next → Next
next_at_places positions background (Ask places) = Ask (union background (at_places positions places))
next_at_places positions background (Done places) = Done (at_places positions places)
