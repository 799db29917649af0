use Rattle.std.proofs.Common.{◌≡◌, ◌+◌, ◌-◌, [], refl, ap, sym, subst, ◌∙◌, arith}
use Rattle.std.specs.Prelude.{IsSome}
use Rattle.script.specs.Sequential.{check_count, outcome_of, told_within}
use Rattle.script.proofs.SequentialRuns.{needs-checks, needs-end, needs-stay}
use Rattle.script.proofs.laws.sequential_run_ends.Goals as goal

pub returns-clause-ends : goal.returns-clause-ends
returns-clause-ends c = λ plan verdict. let end = needs-end plan verdict in subst IsSome (sym (ap outcome_of end.1)) refl

pub returns-clause-enough : goal.returns-clause-enough
returns-clause-enough c = λ plan verdict count most.
    let same : count ≡ check_count plan + (count - check_count plan) = omega arith in
    ap (λ k. told_within k plan verdict []) same ∙ needs-stay plan verdict (count - check_count plan)

pub returns-clause-positions : goal.returns-clause-positions
returns-clause-positions c = λ plan verdict. (needs-checks plan verdict).over

pub returns-clause-answered : goal.returns-clause-answered
returns-clause-answered c = λ plan verdict. (needs-checks plan verdict).answered
