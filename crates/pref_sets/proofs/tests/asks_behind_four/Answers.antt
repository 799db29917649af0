use Rattle.std.proofs.Common.{◌≡◌, [], ◌∷◌, refl, ⊎_elim, arith}
use Rattle.std.specs.Prelude.{Contains}
use Rattle.std.specs.List.Sorted.{IsStrictlyIncreasing}
use Rattle.pref_sets.proofs.AscendingPositions.{Ascends, IsStrictlyIncreasing-from_Ascends}
use Rattle.pref_sets.proofs.TrimmedBehind.{only}
use Rattle.lists.proofs.Members.{none as contains_none, first_or_later}
use Rattle.pref_sets.proofs.tests.asks_behind_four.Goals as goal

ascends : Ascends (3 ∷ 5 ∷ [])
ascends = ((λ y m. let same : 5 ≡ y = only 5 y m in omega arith), ((λ y m. absurd (contains_none y m)), tt))

rises : IsStrictlyIncreasing (3 ∷ 5 ∷ [])
rises = IsStrictlyIncreasing-from_Ascends (3 ∷ 5 ∷ []) ascends

pub returns-clause-first : goal.returns-clause-first
returns-clause-first c = λ table none.
    c.fd_goes_by_places.ensures.asks (3 ∷ 5 ∷ []) (4 ∷ []) (1 ∷ []) table [] rises (λ places sat within e. absurd (cc)) refl none

pub returns-clause-two : goal.returns-clause-two
returns-clause-two c = λ start told h. c.fd_behind_ends.ensures.few (3 ∷ 5 ∷ []) (4 ∷ []) start told h

pub returns-clause-some : goal.returns-clause-some
returns-clause-some c = λ table e.
    (c.fd_behind_asks_new_sets.ensures.part (3 ∷ 5 ∷ []) (4 ∷ []) (4 ∷ []) table rises
    (λ i m n.
    let four : 4 ≡ i = only 4 i m in
    ⊎_elim (λ (three : 3 ≡ i). absurd (omega arith)) (λ (later : Contains (5 ∷ []) i). let five : 5 ≡ i = only 5 i later in absurd (omega arith)) (first_or_later 3 (5 ∷ []) i n))
    e).0 (λ i m. m)
