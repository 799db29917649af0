use Rattle.std.proofs.Common.{◌≡◌, ◌∙◌, ◌+◌, refl, ap, sym, map, drop, arith}
use Rattle.clause_form.specs.Groups.{group_part}
use Rattle.clause_form.specs.Parts.{capped, size_of}
use Rattle.clause_form.proofs.Sizes.{capped-more, drop-one, size_of-append, counted-all}
use Rattle.clause_form.proofs.Walks.{groups_from}
use Rattle.clause_form.proofs.count.in_features.Goals as goal

pub loop-feature-preserved : goal.loop-feature-preserved
loop-feature-preserved c =
    let i = c.loop-feature.feature-index in
    let features = c.args.features.now in
    let feature = c.feature-item.result in
    let here = map (group_part c.loop-feature.feature-index) c.feature-item.result.groups in
    let rest = groups_from (c.loop-feature.feature-index + 1) (drop (c.loop-feature.feature-index + 1) c.args.features.now) in
    let left : size_of (groups_from i (drop i features)) ≡ size_of here + size_of rest =
    ap (λ fs. size_of (groups_from i fs)) (drop-one features i feature c.loop-feature-test.true c.feature-item.is) ∙ size_of-append here rest in
    let groups : c.in_groups.result ≡ capped (size_of here) = c.in_groups.ensures i ∙ ap (λ gs. capped (size_of (map (group_part i) gs))) c.as_slice.ensures in (
      omega arith,
      ap (λ count. capped (count + size_of rest)) (c.saturating_add-count.ensures ∙ ap (λ n. capped (c.loop-feature.count + n)) groups)
          ∙ capped-more c.loop-feature.count (size_of here) (size_of rest)
          ∙ ap (λ n. capped (c.loop-feature.count + n)) (sym left)
          ∙ c.loop-feature.invariant.1,
    )

pub returns : goal.returns
returns c = counted-all (groups_from c.loop-feature.feature-index) c.args.features.now c.loop-feature.feature-index c.loop-feature.count _ c.loop-feature.invariant.0 (omega arith) refl c.loop-feature.invariant.1
