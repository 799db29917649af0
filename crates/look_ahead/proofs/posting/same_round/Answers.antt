use Rattle.std.proofs.Common.{◌-◌, sym, subst, ap, length, arith}
use Rattle.std.proofs.lemmas.List.{length-take}
use Rattle.lists.specs.Distinct.{IsDistinct}
use Rattle.look_ahead.proofs.LiveEntries.{distinct-take}
use Rattle.look_ahead.proofs.posting.same_round.Goals as goal

pub with_posts-requires-clause-room : goal.with_posts-requires-clause-room
with_posts-requires-clause-room c =
    let cut = length-take (c.args.entries - c.args.taken) c.args.missing in
    let long = ap length c.truncate.ensures in
    omega (arith, cut, long, c.requires.most, c.requires.within)

pub with_posts-requires-clause-distinct : goal.with_posts-requires-clause-distinct
with_posts-requires-clause-distinct c =
    subst IsDistinct (sym c.truncate.ensures) (distinct-take (c.args.entries - c.args.taken) c.args.missing c.requires.distinct)
