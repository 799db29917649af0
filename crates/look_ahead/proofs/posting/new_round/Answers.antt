use Rattle.std.proofs.Common.{◌∙◌, take, sym, subst, ap, length, arith}
use Rattle.std.specs.Prelude.{is_none}
use Rattle.std.proofs.lemmas.List.{length-take}
use Rattle.lists.specs.Distinct.{IsDistinct}
use Rattle.look_ahead.specs.Posting.{lacking, live_entry}
use Rattle.look_ahead.proofs.LiveEntries.{distinct-filter, distinct-take}
use Rattle.look_ahead.proofs.posting.new_round.Goals as goal

pub with_posts-requires-clause-room : goal.with_posts-requires-clause-room
with_posts-requires-clause-room c =
    let cut = length-take c.args.entries c.in_ok-post.post in
    let long = ap length c.truncate.ensures in
    omega (arith, cut, long, c.requires.most)

pub with_posts-requires-clause-distinct : goal.with_posts-requires-clause-distinct
with_posts-requires-clause-distinct c =
    let none = c.new-none.result.entries in
    let lacks : IsDistinct (lacking none c.args.list.now) = distinct-filter (λ key. is_none (live_entry none key)) c.args.list.now c.requires.distinct in
    subst IsDistinct (sym (c.truncate.ensures ∙ ap (take c.args.entries) c.in_ok-post.ensures)) (distinct-take c.args.entries (lacking none c.args.list.now) lacks)
