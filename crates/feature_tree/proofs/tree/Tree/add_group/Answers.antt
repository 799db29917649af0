use Rattle.std.proofs.Common.{◌≡◌, ◌<◌, ◌∙◌, refl, ap, ℕ, sym, subst, length, List, [], ◌∷◌, ◌++◌}
use Rattle.std.proofs.lemmas.Result.{on_ok_weaker}
use Rattle.feature_tree.specs.declared.group.Group.{Group}
use Rattle.feature_tree.specs.declared.feature.Feature.{Feature}
use Rattle.feature_tree.specs.WellFormed.{feature_names, IsTree}
use Rattle.feature_tree.specs.Growing.{with_group, with_last_group, IsNewName}
use Rattle.feature_tree.proofs.Changes.{after_either}
use Rattle.feature_tree.proofs.Trees.{grown, names-grown, IsTree-with_group}
use Rattle.feature_tree.proofs.tree.Tree.add_group.Goals as goal

pub invariant_of-self : goal.invariant_of-self
invariant_of-self c =
    let before : List Feature = c.self.inside.features in
    let group : List ℕ → Group = λ children. record { kind = c.args.kind; low = c.args.low; high = c.args.high; children = children } in
    let children : c.push.new.self ≡ length before ∷ [] =
    c.in_ok-push.ensures.ok ∙ ap (λ none. none ++ c.len-child.result ∷ []) c.new-children.ensures ∙ ap (λ n. n ∷ []) c.len-child.ensures in
    let tree : IsTree (with_group before c.args.parent c.args.kind c.args.low c.args.high c.args.name) =
    IsTree-with_group before c.args.parent c.args.kind c.args.low c.args.high c.args.name c.self.invariant
    (subst (λ features. c.args.parent < length features) (sym c.self.view_is) c.requires.parent)
    (subst (λ features. length features < 65535) (sym c.self.view_is) c.requires.room)
    c.requires.bounds
    (subst (λ features. IsNewName features c.args.name) (sym c.self.view_is) c.requires.new) in
    after_either IsTree c.push_group.result c.push_group.new.features (grown (with_last_group (group c.push.new.self)) before c.args.parent c.args.name) before
    c.push_group.ensures.ok c.push_group.ensures.err
    (subst (λ list. IsTree (grown (with_last_group (group list)) before c.args.parent c.args.name)) (sym children) tree)
    c.self.invariant

pub returns-clause-names : goal.returns-clause-names
returns-clause-names c =
    let before : List Feature = c.self.inside.features in
    let group : Group = record { kind = c.args.kind; low = c.args.low; high = c.args.high; children = c.push.new.self } in
    on_ok_weaker {P = c.push_group.new.features ≡ grown (with_last_group group) before c.args.parent c.args.name} c.push_group.result
    (λ ok. ap feature_names ok
    ∙ names-grown (with_last_group group) (λ feature. refl) before c.args.parent c.args.name
    ∙ ap (λ features. feature_names features ++ c.args.name ∷ []) c.self.view_is)
    c.push_group.ensures.ok
