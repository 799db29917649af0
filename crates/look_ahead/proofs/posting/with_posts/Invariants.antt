-- the posts so far are numbered
use Rattle.std.proofs.Common.{◌≡◌, ◌+◌, ◌++◌, take}
use Rattle.look_ahead.specs.Posting.{numbered}
use Rattle.look_ahead.proofs.posting.with_posts.Given as goal

abbrev pub invariant-posts : goal.invariant-posts
invariant-posts l = record {
  live : l.live.entries ≡ l.fn.live.entries ++ numbered l.first (take l.key-index l.key-items);
  number : l.number ≡ l.first + l.key-index;
}
