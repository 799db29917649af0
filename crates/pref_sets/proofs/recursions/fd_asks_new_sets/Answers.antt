use Rattle.std.proofs.Common.{[], true, length, sym, ◌∙◌}
use Rattle.pref_sets.specs.Preferred.{IsWithin}
use Rattle.pref_sets.proofs.FastDiagAsks.{AsksPart, AsksPart-proper, fd_plan-part}
use Rattle.pref_sets.proofs.FastDiagPlan.{fd_plan, fd_part-plan, fd_plan-within, fd_plan-ascends}
use Rattle.pref_sets.proofs.Plans.{AsksOnly-asked, over-new}
use Rattle.pref_sets.proofs.AscendingPositions.{Ascends, Ascends-from_increasing, IsStrictlyIncreasing-from_Ascends}
use Rattle.lists.proofs.Members.{none as contains_none}
use Rattle.pref_sets.proofs.recursions.fd_asks_new_sets.Goals as goal

pub returns-clause-new : goal.returns-clause-new
returns-clause-new c = λ positions asked table e.
    over-new table (fd_plan (length positions) positions [] true) asked (sym (fd_part-plan (length positions) table positions [] true) ∙ e)

pub returns-clause-within : goal.returns-clause-within
returns-clause-within c = λ positions asked table e.
    AsksOnly-asked (λ set. IsWithin set positions) (λ set. IsWithin set positions) table (fd_plan (length positions) positions [] true)
    (fd_plan-within positions (length positions) positions [] true (λ i m. absurd (contains_none i m)) (λ i m. m))
    asked (sym (fd_part-plan (length positions) table positions [] true) ∙ e)

pub returns-clause-ascending : goal.returns-clause-ascending
returns-clause-ascending c = λ positions asked table rises e.
    IsStrictlyIncreasing-from_Ascends asked
    (AsksOnly-asked Ascends Ascends table (fd_plan (length positions) positions [] true)
    (fd_plan-ascends (length positions) positions [] true (Ascends-from_increasing positions rises))
    asked (sym (fd_part-plan (length positions) table positions [] true) ∙ e))

pub returns-clause-part : goal.returns-clause-part
returns-clause-part c = λ positions asked table rises e.
    AsksPart-proper positions asked
    (AsksOnly-asked (AsksPart positions true) (λ set. Unit {0}) table (fd_plan (length positions) positions [] true)
    (fd_plan-part (length positions) positions [] true (Ascends-from_increasing positions rises) (λ i m n. contains_none i m))
    asked (sym (fd_part-plan (length positions) table positions [] true) ∙ e))
