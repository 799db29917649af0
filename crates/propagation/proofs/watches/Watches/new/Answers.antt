use Rattle.std.proofs.Common.{◌≡◌, ◌+◌, ◌*◌, replicate, rules}
use Rattle.propagation.specs.inside.Watching.{nothing}
use Rattle.propagation.proofs.WatchLaws.{ended-replicate}
use Rattle.propagation.proofs.watches.Watches.new.Goals as goal

pub invariant_of-result : goal.invariant_of-result
invariant_of-result c =
    let heads : c.in_ok-heads.heads.items ≡ replicate (2 * c.args.variables + 2) nothing = c.in_ok-heads.ensures.items_if_clones_equal (search rules) in
    rw (c.new.ensures.items, c.new-2.ensures.items, heads) (ended-replicate c.args.variables c.none.result)
