use Rattle.std.proofs.Common.{◌≡◌, take}
use Rattle.req_keys.specs.Wanting.{key_over}
use Rattle.certificate.proofs.keys.key_of.Given as goal

abbrev pub invariant-loop-number : goal.invariant-loop-number
invariant-loop-number l = l.key ≡ key_over l.n (take l.number-index l.numbers)
