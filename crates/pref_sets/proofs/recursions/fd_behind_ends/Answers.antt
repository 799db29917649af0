use Rattle.std.proofs.Common.{◌≡◌, List, ℕ, ◌++◌, true, length, sym, ◌∙◌, ◌+◌, ◌*◌, ◌-◌, arith}
use Rattle.pref_sets.specs.Answers.{Answer, IsToldInTurn}
use Rattle.pref_sets.specs.FastDiag.{fd_behind}
use Rattle.pref_sets.specs.Plan.{Plan, over}
use Rattle.pref_sets.proofs.FastDiagPlan.{fd_plan, fd_part-plan, fd_plan-most}
use Rattle.pref_sets.proofs.Plans.{AsksAtMost, AsksAtMost-weaker, over-stays}
use Rattle.pref_sets.proofs.ToldInTurn.{IsToldInTurn-same, told-few, told-done, told-answered, told-once}
use Rattle.pref_sets.proofs.recursions.fd_behind_ends.Goals as goal

module _ (positions background : List ℕ) where
  plan : Plan
  plan = fd_plan (length positions) positions background true

  -- the recursion as a plan
  same : (table : List Answer) → fd_behind table positions background true ≡ over table plan
  unfolding plan
  same table = fd_part-plan (length positions) table positions background true

  most : AsksAtMost (2 * length positions - 2) plan
  unfolding plan
  most = AsksAtMost-weaker (2 * length positions - 2 + 0) (2 * length positions - 2) (fd_plan (length positions) positions background true) (omega arith) (fd_plan-most (length positions) positions background true)

  turns : (start told : List Answer) → IsToldInTurn (λ table. fd_behind table positions background true) start told → IsToldInTurn (λ table. over table plan) start told
  turns start told h = IsToldInTurn-same (λ table. fd_behind table positions background true) (λ table. over table plan) same start told h

pub returns-clause-few : goal.returns-clause-few
returns-clause-few c = λ positions background start told h. told-few (plan positions background) (2 * length positions - 2) (most positions background) start told (turns positions background start told h)

pub returns-clause-done : goal.returns-clause-done
returns-clause-done c = λ positions background start told h l.
    let r = told-done (plan positions background) (2 * length positions - 2) (most positions background) start told (turns positions background start told h) l in
    (r.0, same positions background (start ++ told) ∙ r.1)

pub returns-clause-stays : goal.returns-clause-stays
returns-clause-stays c = λ positions background set table more e. same positions background (table ++ more) ∙ over-stays table more (plan positions background) set (sym (same positions background table) ∙ e)

pub returns-clause-once : goal.returns-clause-once
returns-clause-once c = λ positions background start told h before answer after e. told-once (plan positions background) start told (turns positions background start told h) before answer after e

pub returns-clause-answered : goal.returns-clause-answered
returns-clause-answered c = λ positions background start test.
    let r = told-answered (plan positions background) (2 * length positions - 2) (most positions background) test start in
    (r.0, r.1, IsToldInTurn-same (λ table. over table (plan positions background)) (λ table. fd_behind table positions background true) (λ table. sym (same positions background table)) start r.0 r.2, r.3, same positions background (start ++ r.0) ∙ r.4)
