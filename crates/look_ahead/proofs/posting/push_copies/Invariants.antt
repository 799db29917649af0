-- the copies so far
use Rattle.std.proofs.Common.{◌≡◌, ◌++◌, take}
use Rattle.look_ahead.proofs.posting.push_copies.Given as goal

abbrev pub invariant-keys : goal.invariant-keys
invariant-keys l = l.list ≡ l.fn.list ++ take l.key-index l.more
