use Rattle.std.proofs.Common.{◌≡◌, ◌<◌, length, false, List, IsTrue, arith, ap, sym, subst, ◌∙◌}
use Rattle.std.proofs.lemmas.Option.{unwrap_or-slice_get}
use Rattle.feature_tree.specs.FeatureModel.{FeatureModel}
use Rattle.feature_tree.specs.Truth.{truth}
use Rattle.feature_tree.specs.Product.{EachMember, IsProduct}
use Rattle.feature_tree.specs.Decided.{is_settled, is_product}
use Rattle.feature_tree.proofs.Decided.{product_decided}
use Rattle.std.specs.Bool.{one_answer}
use Rattle.feature_tree.specs.declared.feature.Feature.{Feature}
use Rattle.std.specs.List.{list_all}
use Rattle.feature_tree.proofs.Products.{view_of, product, settled_of_product, constraints_of_product}
use Rattle.feature_tree.proofs.model.Model.is_product.Goals as goal
use Rattle.feature_tree.proofs.model.Model.is_product.Goals.{then-has_root, else-has_root}

pub bounds-in_set-0 : goal.bounds-in_set-0
bounds-in_set-0 c =
    let sized : length c.args.in_set.now ≡ length c.self.inside.features = c.requires ∙ ap (λ value. length value.features) (sym c.self.view_is) in
    let some : 0 < length c.self.inside.features = c.self.invariant.tree.some in
    omega arith

pub returns-then-members_are_settled-clause-product : goal.returns-then-members_are_settled-clause-product
returns-then-members_are_settled-clause-product c =
    let sized : length c.args.in_set.now ≡ length c.self.inside.features = c.requires ∙ ap (λ value. length value.features) (sym c.self.view_is) in
    let answer : c.all_hold.result ≡ list_all (truth c.args.in_set.now) c.self.inside.constraints = c.all_hold.ensures ∙ ap (list_all (truth c.args.in_set.now)) c.as_slice.ensures in
    let P : FeatureModel → Type 0 = λ value. IsProduct value c.args.in_set.now in
    elim c.if-has_root.branch [
      | then-has_root w ↦
          let settled = w.members_are_settled.ensures.0 (sym w.value-is ∙ c.if-members_are_settled.true) in
          let E : List Feature → Type 0 = λ features. EachMember features c.args.in_set.now (λ feature. IsTrue (is_settled c.args.in_set.now feature)) in (
            (λ yes. subst P c.self.view_is (product (view_of c.self.inside.features c.self.inside.constraints) c.args.in_set.now sized (unwrap_or-slice_get c.args.in_set.now 0 false ∙ w.if-has_root.true) (subst E c.as_slice-features.ensures settled) (sym answer ∙ yes))),
            (λ is. answer ∙ constraints_of_product (view_of c.self.inside.features c.self.inside.constraints) c.args.in_set.now (subst P (sym c.self.view_is) is)),
          )
      | else-has_root w ↦ absurd (cc)
    ]

pub returns-else-members_are_settled-clause-product : goal.returns-else-members_are_settled-clause-product
returns-else-members_are_settled-clause-product c =
    let P : FeatureModel → Type 0 = λ value. IsProduct value c.args.in_set.now in
    let E : List Feature → Type 0 = λ features. EachMember features c.args.in_set.now (λ feature. IsTrue (is_settled c.args.in_set.now feature)) in (
      (λ yes. absurd (cc)),
      (λ is.
          let product = subst P (sym c.self.view_is) is in
          let settled = settled_of_product (view_of c.self.inside.features c.self.inside.constraints) c.args.in_set.now product in
          elim c.if-has_root.branch [
            | then-has_root w ↦ w.value-is ∙ w.members_are_settled.ensures.1 (subst E (sym c.as_slice-features.ensures) settled)
            | else-has_root w ↦ absurd (let read = unwrap_or-slice_get c.args.in_set.now 0 false in let root = product.root in cc)
          ]),
    )

pub returns-then-members_are_settled-clause-tested : goal.returns-then-members_are_settled-clause-tested
returns-then-members_are_settled-clause-tested c =
    one_answer c.all_hold.result (is_product c.args.self.now c.args.in_set.now) (returns-then-members_are_settled-clause-product c) (product_decided c.args.self.now c.args.in_set.now)

pub returns-else-members_are_settled-clause-tested : goal.returns-else-members_are_settled-clause-tested
returns-else-members_are_settled-clause-tested c =
    one_answer c.if-has_root.value (is_product c.args.self.now c.args.in_set.now) (returns-else-members_are_settled-clause-product c) (product_decided c.args.self.now c.args.in_set.now)
