use Rattle.std.proofs.Common.{ℕ, List, Bool, [], true, length, sym, ◌∙◌}
use Rattle.std.proofs.lemmas.List.Elements.{Contains-append_left, Contains-append_right}
use Rattle.pref_sets.specs.Plan.{AsksOnly}
use Rattle.pref_sets.specs.Positions.{union}
use Rattle.pref_sets.specs.Preferred.{IsWithin}
use Rattle.pref_sets.proofs.FastDiagPlan.{fd_plan, fd_part-plan, fd_plan-within}
use Rattle.pref_sets.proofs.Plans.{over-more_asked, over-more_found}
use Rattle.pref_sets.proofs.AscendingPositions.{union-has}
use Rattle.lists.proofs.Members.{none as contains_none}
use Rattle.pref_sets.proofs.recursions.fd_over_more_answers.Goals as goal

-- what is asked is of the positions
asks_within : (positions : List ℕ) → AsksOnly (λ set. IsWithin set positions) (λ set. IsWithin set positions) (fd_plan (length positions) positions [] true)
asks_within positions = fd_plan-within positions (length positions) positions [] true (λ i m. absurd (contains_none i m)) (λ i m. m)

asks_within_behind : (positions background : List ℕ) (known : Bool) → AsksOnly (λ set. IsWithin set (union background positions)) (λ set. IsWithin set positions) (fd_plan (length positions) positions background known)
asks_within_behind positions background known =
    fd_plan-within (union background positions) (length positions) positions background known
    (λ i m. union-has background positions i (Contains-append_left background positions i m))
    (λ i m. union-has background positions i (Contains-append_right background positions i m))

pub returns-clause-asks : goal.returns-clause-asks
returns-clause-asks c = λ positions asked table other more e none.
    fd_part-plan (length positions) other positions [] true
    ∙ over-more_asked (λ set. IsWithin set positions) (λ set. IsWithin set positions) table other more (fd_plan (length positions) positions [] true) (asks_within positions) asked (sym (fd_part-plan (length positions) table positions [] true) ∙ e) none

pub returns-clause-finds : goal.returns-clause-finds
returns-clause-finds c = λ positions kept table other more e.
    fd_part-plan (length positions) other positions [] true
    ∙ over-more_found (λ set. IsWithin set positions) (λ set. IsWithin set positions) table other more (fd_plan (length positions) positions [] true) (asks_within positions) kept (sym (fd_part-plan (length positions) table positions [] true) ∙ e)

pub returns-clause-asks_behind : goal.returns-clause-asks_behind
returns-clause-asks_behind c = λ positions background asked known table other more e none.
    fd_part-plan (length positions) other positions background known
    ∙ over-more_asked (λ set. IsWithin set (union background positions)) (λ set. IsWithin set positions) table other more (fd_plan (length positions) positions background known) (asks_within_behind positions background known) asked (sym (fd_part-plan (length positions) table positions background known) ∙ e) none

pub returns-clause-finds_behind : goal.returns-clause-finds_behind
returns-clause-finds_behind c = λ positions background kept known table other more e.
    fd_part-plan (length positions) other positions background known
    ∙ over-more_found (λ set. IsWithin set (union background positions)) (λ set. IsWithin set positions) table other more (fd_plan (length positions) positions background known) (asks_within_behind positions background known) kept (sym (fd_part-plan (length positions) table positions background known) ∙ e)
