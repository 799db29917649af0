use Rattle.std.proofs.Common.{◌≡◌, drop}
use Rattle.std.specs.Map.{lookup}
use Rattle.req_keys.specs.Order.{key_eq}
use Rattle.script.proofs.used.verdict_among.Given as goal

abbrev pub invariant-loop-other : goal.invariant-loop-other
invariant-loop-other l = lookup (key_eq l.key) l.pairs ≡ lookup (key_eq l.key) (drop l.other-index l.pairs)
