use Rattle.std.proofs.Common.{ℕ, List, [], length, sym, ◌∙◌}
use Rattle.pref_sets.specs.Plan.{AsksOnly}
use Rattle.pref_sets.specs.Preferred.{IsWithin}
use Rattle.pref_sets.proofs.QuickXplainPlan.{qx_plan, qx_part-plan, qx_plan-within}
use Rattle.pref_sets.proofs.Plans.{over-more_asked, over-more_found}
use Rattle.lists.proofs.Members.{none as contains_none}
use Rattle.pref_sets.proofs.recursions.qx_over_more_answers.Goals as goal

-- what is asked is of the positions
asks_within : (positions : List ℕ) → AsksOnly (λ set. IsWithin set positions) (λ set. IsWithin set positions) (qx_plan (length positions) [] [] positions)
asks_within positions = qx_plan-within positions (length positions) [] [] positions (λ i m. absurd (contains_none i m)) (λ i m. m)

pub returns-clause-asks : goal.returns-clause-asks
returns-clause-asks c = λ positions asked table other more e none.
    qx_part-plan (length positions) other [] [] positions
    ∙ over-more_asked (λ set. IsWithin set positions) (λ set. IsWithin set positions) table other more (qx_plan (length positions) [] [] positions) (asks_within positions) asked (sym (qx_part-plan (length positions) table [] [] positions) ∙ e) none

pub returns-clause-finds : goal.returns-clause-finds
returns-clause-finds c = λ positions left table other more e.
    qx_part-plan (length positions) other [] [] positions
    ∙ over-more_found (λ set. IsWithin set positions) (λ set. IsWithin set positions) table other more (qx_plan (length positions) [] [] positions) (asks_within positions) left (sym (qx_part-plan (length positions) table [] [] positions) ∙ e)
