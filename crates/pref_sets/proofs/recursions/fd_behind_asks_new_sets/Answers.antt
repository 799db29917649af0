use Rattle.std.proofs.Common.{true, length, refl, sym, ◌∙◌}
use Rattle.std.proofs.lemmas.List.Elements.{Contains-append_left, Contains-append_right}
use Rattle.pref_sets.specs.Positions.{union}
use Rattle.pref_sets.specs.Preferred.{IsWithin}
use Rattle.pref_sets.proofs.FastDiagAsks.{AsksPart, fd_plan-part}
use Rattle.pref_sets.proofs.FastDiagPlan.{fd_plan, fd_part-plan, fd_plan-within, fd_plan-ascends}
use Rattle.pref_sets.proofs.Plans.{AsksOnly-asked, over-new}
use Rattle.pref_sets.proofs.AscendingPositions.{Ascends, Ascends-from_increasing, IsStrictlyIncreasing-from_Ascends, union-has}
use Rattle.pref_sets.proofs.recursions.fd_behind_asks_new_sets.Goals as goal

pub returns-clause-new : goal.returns-clause-new
returns-clause-new c = λ positions background asked known table e.
    over-new table (fd_plan (length positions) positions background known) asked (sym (fd_part-plan (length positions) table positions background known) ∙ e)

pub returns-clause-within : goal.returns-clause-within
returns-clause-within c = λ positions background asked known table e.
    AsksOnly-asked (λ set. IsWithin set (union background positions)) (λ set. IsWithin set positions) table (fd_plan (length positions) positions background known)
    (fd_plan-within (union background positions) (length positions) positions background known (λ i m. union-has background positions i (Contains-append_left background positions i m)) (λ i m. union-has background positions i (Contains-append_right background positions i m)))
    asked (sym (fd_part-plan (length positions) table positions background known) ∙ e)

pub returns-clause-ascending : goal.returns-clause-ascending
returns-clause-ascending c = λ positions background asked known table rises e.
    IsStrictlyIncreasing-from_Ascends asked
    (AsksOnly-asked Ascends Ascends table (fd_plan (length positions) positions background known)
    (fd_plan-ascends (length positions) positions background known (Ascends-from_increasing positions rises))
    asked (sym (fd_part-plan (length positions) table positions background known) ∙ e))

pub returns-clause-part : goal.returns-clause-part
returns-clause-part c = λ positions background asked table rises clear e.
    let p : AsksPart positions true asked =
    AsksOnly-asked (AsksPart positions true) (λ set. Unit {0}) table (fd_plan (length positions) positions background true)
    (fd_plan-part (length positions) positions background true (Ascends-from_increasing positions rises) clear)
    asked (sym (fd_part-plan (length positions) table positions background true) ∙ e) in (
      (λ inside. clear p.0.0 (inside p.0.0 p.0.2) p.0.1),
      (λ all. p.1 refl all),
    )
