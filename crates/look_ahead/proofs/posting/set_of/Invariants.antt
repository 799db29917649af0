-- the keys so far
use Rattle.std.proofs.Common.{◌≡◌, take}
use Rattle.look_ahead.proofs.posting.set_of.Given as goal

abbrev pub invariant-keys : goal.invariant-keys
invariant-keys l = l.set.keys ≡ take l.key-index l.key-items
