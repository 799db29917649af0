-- A set that is asked has no answer yet, and only so many are asked.
use Rattle.std.proofs.Common.{◌≡◌, ℕ, ◌+◌, ◌*◌, ◌-◌, ◌≤◌, None, List, [], length, sym, ◌∙◌, arith}
use Rattle.pref_sets.specs.Answers.{Answer, Ask, IsToldInTurn, answer_to}
use Rattle.pref_sets.specs.Plan.{over}
use Rattle.pref_sets.specs.QuickXplain.{qx}
use Rattle.pref_sets.proofs.Plans.{AsksAtMost-weaker, over-new}
use Rattle.pref_sets.proofs.QuickXplainPlan.{qx_plan, qx_part-plan, qx_plan-most}
use Rattle.pref_sets.proofs.ToldInTurn.{IsToldInTurn-same, told-few}

pub asks-new : (members : List ℕ) (told : List Answer) (set : List ℕ) → qx members told ≡ Ask set → answer_to told set ≡ None
asks-new members told set e = over-new told (qx_plan (length members) [] [] members) set (sym (qx_part-plan (length members) told [] [] members) ∙ e)

pub asks-few : (members : List ℕ) (told : List Answer) → IsToldInTurn (qx members) [] told → length told ≤ 2 * length members - 2
asks-few members told h =
    told-few (qx_plan (length members) [] [] members) (2 * length members - 2)
    (AsksAtMost-weaker (2 * length members - 2 + 0) (2 * length members - 2) (qx_plan (length members) [] [] members) (omega arith) (qx_plan-most (length members) [] [] members))
    [] told
    (IsToldInTurn-same (qx members) (λ table. over table (qx_plan (length members) [] [] members)) (λ table. qx_part-plan (length members) table [] [] members) [] told h)
