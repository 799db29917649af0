use Rattle.std.specs.List.{range_with_len}
use Rattle.script.specs.Job.{answers_of}
use Rattle.script.proofs.RightOutcomes.{increasing-range, outcome-right, rises-of_part, true-agrees, true-verdict}
use Rattle.script.proofs.laws.outcome_is_right.Goals as goal

pub returns : goal.returns
returns g c = λ about plan told outcome fewer true_told e.
    let P = g.P.Property.holds about in
    let n = plan.requirements in
    let all = range_with_len 1 n in
    let table = answers_of told in
    let agrees = true-agrees P told true_told in
    let rises = increasing-range n in
    let qx_is = c.qx_is_trimmed.ensures in
    outcome-right P n told
    (λ kept fails done. c.fd_is_kept.ensures.kept about all kept table fewer rises fails agrees done)
    (λ conflict empty done. qx_is.trimmed about all conflict table fewer rises empty agrees done)
    (λ most conflict fails empty done ended.
    c.tree_lists_minimal_diagnoses.ensures.listing about n most conflict table fewer
    (rises-of_part n conflict (qx_is.ascending all conflict table rises done) (qx_is.within all conflict table done))
    (qx_is.conflict about all conflict table fewer rises fails empty agrees done) agrees ended)
    (true-verdict P told true_told)
    plan.list outcome e
