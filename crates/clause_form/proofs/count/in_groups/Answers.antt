use Rattle.std.proofs.Common.{refl, map, arith}
use Rattle.clause_form.specs.Groups.{group_part}
use Rattle.clause_form.proofs.Sizes.{counted-all}
use Rattle.clause_form.proofs.count.in_groups.Goals as goal

pub returns : goal.returns
returns c =
    λ parent. counted-all (map (group_part parent)) c.args.groups.now c.loop-group.group-index c.loop-group.count _ c.loop-group.invariant.0 (omega arith) refl (c.loop-group.invariant.1 parent)
