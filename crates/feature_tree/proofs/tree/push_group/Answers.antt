use Rattle.std.proofs.Common.{◌∙◌, ap, take, List, ◌++◌, ◌∷◌, [], Some}
use Rattle.std.specs.List.{slice_set}
use Rattle.std.proofs.Math.Seq.{take-append_seam}
use Rattle.feature_tree.specs.declared.group.Group.{Group}
use Rattle.feature_tree.specs.declared.feature.Feature.{Feature}
use Rattle.feature_tree.specs.Growing.{new_feature, with_last_group, changed_at}
use Rattle.feature_tree.proofs.Changes.{slice_set-same, slice_set-changed_at, changed_at-append}
use Rattle.feature_tree.proofs.tree.push_group.Goals as goal

pub returns-in-Err-clause-err : goal.returns-in-Err-clause-err
returns-in-Err-clause-err c =
    let feature : Feature = c.get_mut-feature.result.now in
    let changed : List Group → Feature = λ groups. record feature { groups = groups } in
    c.truncate.ensures
    ∙ ap (λ groups. take c.len-count.result (slice_set c.push_feature.new.features c.args.parent (changed groups))) (c.in-Err.ensures.err)
    ∙ ap (take c.len-count.result) (slice_set-same c.push_feature.new.features c.args.parent feature c.get_mut-feature.ensures.value)
    ∙ ap (λ features. take c.len-count.result features) (c.in_ok-push_feature.ensures.ok)
    ∙ ap (λ count. take count (c.args.features.now ++ new_feature c.args.name (Some c.args.parent) ∷ [])) c.len-count.ensures
    ∙ take-append_seam c.args.features.now (new_feature c.args.name (Some c.args.parent) ∷ [])

pub returns-clause-ok : goal.returns-clause-ok
returns-clause-ok c =
    let feature : Feature = c.get_mut-feature.result.now in
    let changed : List Group → Feature = λ groups. record feature { groups = groups } in
    ap (λ groups. slice_set c.push_feature.new.features c.args.parent (changed groups)) (c.in_default.ensures.ok)
    ∙ slice_set-changed_at (with_last_group c.args.group) c.push_feature.new.features c.args.parent feature c.get_mut-feature.ensures.value
    ∙ ap (λ features. changed_at (with_last_group c.args.group) features c.args.parent) (c.in_ok-push_feature.ensures.ok)
    ∙ changed_at-append (with_last_group c.args.group) c.args.features.now (new_feature c.args.name (Some c.args.parent) ∷ []) c.args.parent c.requires.parent
