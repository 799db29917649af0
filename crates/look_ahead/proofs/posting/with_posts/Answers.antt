use Rattle.std.proofs.Common.{◌≡◌, ◌<◌, ◌∙◌, length, get_or, sym, subst, arith}
use Rattle.std.specs.Prelude.{All, None}
use Rattle.indexmap.proofs.CallerLemmas.{insert_entry-new}
use Rattle.lists.specs.Distinct.{IsDistinct}
use Rattle.req_keys.specs.Order.{key_eq}
use Rattle.look_ahead.specs.Posting.{live_entry}
use Rattle.look_ahead.proofs.LiveEntries.{post-fresh, post-more}
use Rattle.look_ahead.proofs.posting.with_posts.Goals as goal

pub posts-preserved : goal.posts-preserved
posts-preserved c =
    let items = c.as_slice-key-items.result.now in
    let i = c.posts.key-index in
    let key = c.in_ok-key.key in
    let within : i < length items = omega arith in
    let is : key ≡ get_or items i key = subst (λ k. k ≡ get_or items i k) (sym c.in_ok-key.ensures) c.key-item.is in
    let apart : IsDistinct items = subst IsDistinct (sym c.as_slice-key-items.ensures) c.requires.distinct in
    let absent : All (λ k. live_entry c.args.live.entries k ≡ None) items = subst (λ l. All (λ k. live_entry c.args.live.entries k ≡ None) l) (sym c.as_slice-key-items.ensures) c.requires.lacking in
    let fresh = post-fresh c.args.live.entries c.posts.live.entries c.insert.new.self.entries c.args.first c.posts.number i items key c.posts.invariant.live within is apart absent in
    record {
      live = post-more c.args.live.entries c.posts.live.entries c.insert.new.self.entries c.args.first c.posts.number i items key c.posts.invariant.live within is (c.in_ok-insert.ensures.entries ∙ insert_entry-new key_eq c.posts.live key c.posts.number fresh) c.posts.invariant.number;
      number = omega (arith, c.posts.invariant.number);
    }
