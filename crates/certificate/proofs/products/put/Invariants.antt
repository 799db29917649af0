use Rattle.std.proofs.Common.{◌≡◌, length, take}
use Rattle.certificate.specs.Words.{set_of}
use Rattle.certificate.proofs.products.put.Given as goal

abbrev pub invariant-loop-number : goal.invariant-loop-number
invariant-loop-number l = l.set ≡ set_of (length l.fn.set) (take l.number-index l.numbers)
