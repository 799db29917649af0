use Rattle.std.proofs.Common.{◌≡◌, ◌<◌, ◌∙◌, refl, ap, sym, subst, length, List, [], ◌∷◌, ◌++◌}
use Rattle.std.proofs.lemmas.Result.{on_ok_weaker}
use Rattle.feature_tree.specs.declared.feature.Feature.{Feature}
use Rattle.feature_tree.specs.WellFormed.{feature_names, groups_of, IsTree}
use Rattle.feature_tree.specs.Growing.{with_child, with_last_child, IsNewName}
use Rattle.feature_tree.proofs.Changes.{after_either}
use Rattle.feature_tree.proofs.Trees.{names-grown, IsTree-with_child}
use Rattle.feature_tree.proofs.tree.Tree.add_child.Goals as goal

pub invariant_of-self : goal.invariant_of-self
invariant_of-self c =
    let before : List Feature = c.self.inside.features in
    after_either IsTree c.push_child.result c.push_child.new.features (with_child before c.args.parent c.args.name) before
    c.push_child.ensures.ok c.push_child.ensures.err
    (IsTree-with_child before c.args.parent c.args.name c.self.invariant
    (subst (λ features. 0 < length (groups_of features c.args.parent)) (sym c.self.view_is) c.requires.group)
    (subst (λ features. length features < 65535) (sym c.self.view_is) c.requires.room)
    (subst (λ features. IsNewName features c.args.name) (sym c.self.view_is) c.requires.new))
    c.self.invariant

pub returns-clause-names : goal.returns-clause-names
returns-clause-names c =
    let before : List Feature = c.self.inside.features in
    on_ok_weaker {P = c.push_child.new.features ≡ with_child before c.args.parent c.args.name} c.push_child.result
    (λ ok. ap feature_names ok
    ∙ names-grown (with_last_child (length before)) (λ feature. refl) before c.args.parent c.args.name
    ∙ ap (λ features. feature_names features ++ c.args.name ∷ []) c.self.view_is)
    c.push_child.ensures.ok
