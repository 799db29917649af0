use Rattle.std.proofs.Common.{◌∙◌}
use Rattle.certificate.proofs.WholeLaws.{OnOk-then, sets-in-order}
use Rattle.certificate.proofs.writing.push_sets.Goals as goal

pub returns : goal.returns
returns c =
    OnOk-then c.push_listed-2.result
    (λ put.
    sets-in-order c.args.text.now c.extend_from_slice.new.self c.push_listed.new.text c.push_listed-2.new.text c.args.kept.now c.args.conflict.now c.as_slice-2.result.now c.as_slice-4.result.now
    c.in_ok-extend_from_slice.ensures.ok (c.as_slice-2.ensures ∙ c.in_ok-positions.ensures) c.in_ok-push_listed.ensures (c.as_slice-4.ensures ∙ c.in_ok-positions-2.ensures) put)
    c.push_listed-2.ensures
