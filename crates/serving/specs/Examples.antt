-- Worked examples of rounds, and of words at which a wait ends. Each computes.
use Rattle.std.specs.Prelude.{◌≡◌, ℕ, List, [], ◌∷◌, refl}
use mathlib.Core.Logic.{inl, inr}
use Rattle.req_keys.specs.Key.{PositionSet}
use Rattle.req_keys.specs.Wanting.{key_over}
use Rattle.req_keys.specs.declared.verdict.Verdict.TheVariants as verdict
use Rattle.look_ahead.specs.Posting.{PostingState, after_turn, nothing_posted}
use Rattle.serving.specs.Met.{IsOver}
use Rattle.serving.specs.Rounds.{round_keys}

abbrev key : List ℕ → PositionSet
key set = key_over 3 set

-- before the first turn a round has no key
pub keys-none : round_keys (nothing_posted 2) ≡ []
keys-none = refl

-- two entries are taken, and then one of a new round: it alone is the round's
abbrev first : PostingState
first = after_turn (key []) (key (1 ∷ []) ∷ key (2 ∷ []) ∷ []) (nothing_posted 2)

pub keys-first : round_keys first ≡ key (1 ∷ []) ∷ key (2 ∷ []) ∷ []
keys-first = refl

pub keys-next : round_keys (after_turn (key []) (key (3 ∷ []) ∷ []) first) ≡ key (3 ∷ []) ∷ []
keys-next = refl

pub over-given_up : IsOver 4
over-given_up = inl refl

pub over-answered : IsOver 6
over-answered = inr (verdict.Unsat, refl)
