use Rattle.std.proofs.Common.{◌≡◌, ℕ, true, false, List, [], ◌∷◌, ◌∙◌}
use Rattle.pref_sets.specs.Answers.{Answer, answer_to}
use Rattle.pref_sets.specs.FastDiag.{fd}
use Rattle.pref_sets.proofs.Plans.{answer_to-past}
use Rattle.pref_sets.proofs.tests.asks_after_the_first_two.Goals as goal

past_two : (positions set : List ℕ) (table : List Answer) → (¬ set ≡ []) × (¬ set ≡ positions) → answer_to (record { set = positions; sat = false } ∷ record { set = []; sat = true } ∷ table) set ≡ answer_to table set
past_two positions set table proper =
    answer_to-past record { set = positions; sat = false } (record { set = []; sat = true } ∷ table) set proper.1
    ∙ answer_to-past record { set = []; sat = true } table set proper.0

pub returns : goal.returns
returns c = λ positions asked told rises turns e.
    c.fd_over_more_answers.ensures.asks positions asked told (record { set = positions; sat = false } ∷ record { set = []; sat = true } ∷ told)
    (λ set sat within known.
    let before = c.answers_in_turn.ensures.asked (fd positions) told set sat turns known in
    past_two positions set told (c.fd_asks_new_sets.ensures.part positions set before.0 rises before.3) ∙ known)
    e
    (past_two positions asked told (c.fd_asks_new_sets.ensures.part positions asked told rises e) ∙ c.fd_asks_new_sets.ensures.new positions asked told e)
