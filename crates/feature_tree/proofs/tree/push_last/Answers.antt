use Rattle.std.proofs.Common.{◌≡◌, ◌∙◌, ap, ℕ, ◌+◌, ◌-◌, length, List, arith}
use Rattle.std.specs.List.{slice_set}
use Rattle.feature_tree.specs.declared.group.Group.{Group}
use Rattle.feature_tree.specs.Growing.{with_one_more}
use Rattle.feature_tree.proofs.Changes.{slice_set-same, slice_set-changed_last, OnErr-holds}
use Rattle.feature_tree.proofs.tree.push_last.Goals as goal

pub returns-clause-ok : goal.returns-clause-ok
returns-clause-ok c =
    let last : (c.len-last.result - 1) + 1 ≡ length c.args.groups.now = omega arith in
    let group : Group = c.get_mut-group.result.now in
    let changed : List ℕ → Group = λ children. record group { children = children } in
    ap (λ children. slice_set c.args.groups.now (c.len-last.result - 1) (changed children)) (c.in_ok-push.ensures.ok)
    ∙ slice_set-changed_last (with_one_more c.args.child) c.args.groups.now (c.len-last.result - 1) group last c.get_mut-group.ensures.value

pub returns-in_err-push-clause-err : goal.returns-in_err-push-clause-err
returns-in_err-push-clause-err c =
    let group : Group = c.get_mut-group.result.now in
    let changed : List ℕ → Group = λ children. record group { children = children } in
    OnErr-holds c.from_residual.result _
    (ap (λ children. slice_set c.args.groups.now (c.len-last.result - 1) (changed children)) (c.in_err-push.ensures.err)
    ∙ slice_set-same c.args.groups.now (c.len-last.result - 1) group c.get_mut-group.ensures.value)
