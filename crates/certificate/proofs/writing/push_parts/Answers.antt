use Rattle.certificate.proofs.WholeLaws.{OnOk-then, parts-in-order}
use Rattle.certificate.proofs.writing.push_parts.Goals as goal

pub returns : goal.returns
returns c =
    rw (c.in-Some.is, c.in-Some-conflict.is)
    (OnOk-then c.push_all_needs.result
    (λ put.
    parts-in-order c.args.model.now c.args.searcher.now c.push_product.new.searcher c.push_all_refuted.new.searcher c.push_derivation.new.searcher c.in-Some.kept c.in-Some-conflict.conflict
    c.args.text.now c.push_sets.new.text c.push_product.new.text c.push_all_refuted.new.text c.extend_from_slice.new.self c.push_derivation.new.text c.push_all_needs.new.text
    c.in_ok-push_sets.ensures
    c.in_ok-push_product.ensures.text
    c.in_ok-push_product.ensures.same
    c.in_ok-push_all_refuted.ensures.text
    c.in_ok-push_all_refuted.ensures.same
    c.in_ok-extend_from_slice.ensures.ok
    c.in_ok-push_derivation.ensures.text
    c.in_ok-push_derivation.ensures.same
    put)
    c.push_all_needs.ensures.text)
