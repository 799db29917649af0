-- what is missing among the keys so far
use Rattle.std.proofs.Common.{◌≡◌, take}
use Rattle.look_ahead.specs.Posting.{lacking}
use Rattle.look_ahead.proofs.posting.keys_lacking.Given as goal

abbrev pub invariant-keys : goal.invariant-keys
invariant-keys l = l.missing ≡ lacking l.live.entries (take l.key-index l.key-items)
