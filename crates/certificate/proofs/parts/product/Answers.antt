use Rattle.std.proofs.Common.{◌≡◌, ◌∙◌, sym, ap, ◌∷◌, ℕ, true, false, length, Some, arith}
use Rattle.feature_tree.specs.FeatureModel.{FeatureModel}
use Rattle.certificate.specs.declared.judgement.Judgement.TheVariants.{No}
use Rattle.certificate.specs.declared.judgement.Why.TheVariants as why
use Rattle.certificate.specs.Judging.{Subject, Product, is_wanted}
use Rattle.certificate.specs.Words.{product_in}
use Rattle.certificate.proofs.PassingLaws.{step-goes, step-refuses, product-step, put-back, read-some}
use Rattle.certificate.proofs.parts.product.Goals as goal

pub read_product-requires : goal.read_product-requires
read_product-requires c =
    c.len-count.ensures ∙ ap (λ (m : FeatureModel). length m.features) c.model.view_is ∙ sym c.requires.sized ∙ ap length (sym c.as_mut_slice.ensures.value)

pub returns-then-branch-clause-passes : goal.returns-then-branch-clause-passes
returns-then-branch-clause-passes c = λ problem rest.
    let about : Subject = record { model = c.args.model.now; config = c.args.config.now; problem = problem } in
    let size = ap length c.as_mut_slice.ensures.value ∙ c.requires.sized in
    let read : product_in (length c.args.model.now.features) c.in-Some.line.now ≡ Some c.read_product.new.set =
    ap (λ (n : ℕ). product_in n c.in-Some.line.now) (sym size)
    ∙ read-some c.in_ok-read_product.field-0 (product_in (length c.as_mut_slice.result.now) c.in-Some.line.now) c.read_product.new.set c.in_ok-read_product.ensures c.if-not-branch.false in
    let back = put-back c.args.buffers.now.set.len c.args.buffers.now.set.items c.read_product.new.set (c.read_product.auto.set ∙ ap length c.as_mut_slice.ensures.value) (omega (arith, c.args.buffers.now.set.ok.0)) in
    let wanted : is_wanted c.args.model.now c.args.config.now c.args.key.now.members c.read_product.new.set ≡ true =
    ap (is_wanted c.args.model.now c.args.config.now c.args.key.now.members) (sym back ∙ sym c.as_slice.ensures.value) ∙ sym c.in_ok-is_wanted.ensures ∙ c.if-branch.true in
    step-goes about (Product c.args.key.now.members ∷ rest) c.args.lines.now c.next.new.self c.in-Some.line.now c.in-Some.ensures.0 c.in-Some.ensures.1 rest
    (product-step about c.args.key.now.members rest c.in-Some.line.now c.read_product.new.set true read wanted)

pub returns-else-branch-clause-passes : goal.returns-else-branch-clause-passes
returns-else-branch-clause-passes c = λ problem rest.
    let about : Subject = record { model = c.args.model.now; config = c.args.config.now; problem = problem } in
    let size = ap length c.as_mut_slice.ensures.value ∙ c.requires.sized in
    let read : product_in (length c.args.model.now.features) c.in-Some.line.now ≡ Some c.read_product.new.set =
    ap (λ (n : ℕ). product_in n c.in-Some.line.now) (sym size)
    ∙ read-some c.in_ok-read_product.field-0 (product_in (length c.as_mut_slice.result.now) c.in-Some.line.now) c.read_product.new.set c.in_ok-read_product.ensures c.if-not-branch.false in
    let back = put-back c.args.buffers.now.set.len c.args.buffers.now.set.items c.read_product.new.set (c.read_product.auto.set ∙ ap length c.as_mut_slice.ensures.value) (omega (arith, c.args.buffers.now.set.ok.0)) in
    let wanted : is_wanted c.args.model.now c.args.config.now c.args.key.now.members c.read_product.new.set ≡ false =
    ap (is_wanted c.args.model.now c.args.config.now c.args.key.now.members) (sym back ∙ sym c.as_slice.ensures.value) ∙ sym c.in_ok-is_wanted.ensures ∙ c.if-branch.false in
    step-refuses about (Product c.args.key.now.members ∷ rest) c.args.lines.now c.next.new.self c.in-Some.line.now c.in-Some.ensures.0 c.in-Some.ensures.1 why.NotProduct
    (product-step about c.args.key.now.members rest c.in-Some.line.now c.read_product.new.set false read wanted)
    ∙ ap (λ (n : ℕ). No n why.NotProduct) (sym c.number-number.ensures)
