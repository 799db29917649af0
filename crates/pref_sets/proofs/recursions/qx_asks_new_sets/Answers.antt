use Rattle.std.proofs.Common.{[], length, sym, ◌∙◌}
use Rattle.pref_sets.specs.Preferred.{IsWithin}
use Rattle.pref_sets.proofs.QuickXplainAsks.{IsPartOf, IsPartOf-proper, qx_plan-part}
use Rattle.pref_sets.proofs.QuickXplainPlan.{qx_plan, qx_part-plan, qx_plan-within, qx_plan-ascends}
use Rattle.pref_sets.proofs.Plans.{AsksOnly-asked, over-new}
use Rattle.pref_sets.proofs.AscendingPositions.{Ascends, Ascends-from_increasing, IsStrictlyIncreasing-from_Ascends}
use Rattle.lists.proofs.Members.{none as contains_none}
use Rattle.pref_sets.proofs.recursions.qx_asks_new_sets.Goals as goal

pub returns-clause-new : goal.returns-clause-new
returns-clause-new c = λ positions asked table e.
    over-new table (qx_plan (length positions) [] [] positions) asked (sym (qx_part-plan (length positions) table [] [] positions) ∙ e)

pub returns-clause-within : goal.returns-clause-within
returns-clause-within c = λ positions asked table e.
    AsksOnly-asked (λ set. IsWithin set positions) (λ set. IsWithin set positions) table (qx_plan (length positions) [] [] positions)
    (qx_plan-within positions (length positions) [] [] positions (λ i m. absurd (contains_none i m)) (λ i m. m))
    asked (sym (qx_part-plan (length positions) table [] [] positions) ∙ e)

pub returns-clause-ascending : goal.returns-clause-ascending
returns-clause-ascending c = λ positions asked table rises e.
    IsStrictlyIncreasing-from_Ascends asked
    (AsksOnly-asked Ascends Ascends table (qx_plan (length positions) [] [] positions)
    (qx_plan-ascends (length positions) [] [] positions tt (Ascends-from_increasing positions rises))
    asked (sym (qx_part-plan (length positions) table [] [] positions) ∙ e))

pub returns-clause-part : goal.returns-clause-part
returns-clause-part c = λ positions asked table rises e.
    IsPartOf-proper positions asked
    (AsksOnly-asked (IsPartOf positions) (λ set. Unit {0}) table (qx_plan (length positions) [] [] positions)
    (qx_plan-part (length positions) [] [] positions (λ i m. m) (Ascends-from_increasing positions rises) (λ i m n. contains_none i m))
    asked (sym (qx_part-plan (length positions) table [] [] positions) ∙ e))
