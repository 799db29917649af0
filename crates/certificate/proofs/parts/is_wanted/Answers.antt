use Rattle.std.proofs.Common.{◌≡◌, ◌∙◌, sym, ap, subst, Bool}
use Rattle.std.specs.Prelude.{IfOk}
use Rattle.std.specs.List.{list_all}
use Rattle.config_reader.specs.declared.config.Requirement.{Requirement}
use Rattle.config_reader.specs.Configuration.{Configuration}
use Rattle.feature_tree.specs.Truth.{truth}
use Rattle.certificate.proofs.PassingLaws.{unwanted-product, unwanted-musts, wanted-rest}
use Rattle.certificate.proofs.parts.is_wanted.Goals as goal
use Rattle.certificate.proofs.parts.is_wanted.Goals.{then-not-is_product-via-then-not-is_product, then-not-is_product-via-else-not-is_product+then-not-musts_hold}

pub returns-then-not-is_product : goal.returns-then-not-is_product
returns-then-not-is_product c =
    elim c.then-not-is_product.branch [
      | then-not-is_product-via-then-not-is_product w ↦
          unwanted-product c.args.model.now c.args.config.now c.args.key.now.members c.args.set.now (sym c.is_product.ensures.tested ∙ w.if-not-is_product.true)
      | then-not-is_product-via-else-not-is_product+then-not-musts_hold w ↦
          unwanted-musts c.args.model.now c.args.config.now c.args.key.now.members c.args.set.now
          (ap (λ (config : Configuration). list_all (λ (must : Requirement). truth c.args.set.now must.formula) config.musts) (sym c.config.view_is)
          ∙ ap (list_all (λ (must : Requirement). truth c.args.set.now must.formula)) (sym w.as_slice.ensures)
          ∙ sym w.musts_hold.ensures ∙ w.if-not-musts_hold.true)
    ]

pub returns : goal.returns
returns c =
    subst (λ (b : Bool). IfOk c.requirements_hold.result (λ yes. yes ≡ b))
    (sym
    (wanted-rest c.args.model.now c.args.config.now c.args.key.now.members c.args.set.now (sym c.is_product.ensures.tested ∙ c.if-not-is_product.false)
    (ap (λ (config : Configuration). list_all (λ (must : Requirement). truth c.args.set.now must.formula) config.musts) (sym c.config.view_is)
    ∙ ap (list_all (λ (must : Requirement). truth c.args.set.now must.formula)) (sym c.as_slice.ensures)
    ∙ sym c.musts_hold.ensures ∙ c.if-not-musts_hold.false)))
    c.requirements_hold.ensures
