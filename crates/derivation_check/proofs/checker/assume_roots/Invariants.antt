use Rattle.std.proofs.Common.{◌≡◌, length}
use Rattle.std.specs.Prelude.{filter}
use Rattle.std.specs.List.{range_with_len}
use Rattle.req_keys.specs.Positions.{has}
use Rattle.propagation.proofs.RootLaws.{AreAssumed}
use Rattle.derivation_check.proofs.checker.assume_roots.Given as goal

abbrev pub invariant-loop-place : goal.invariant-loop-place
invariant-loop-place l = (l.count ≡ length l.propagator.assumed) × AreAssumed l.fn.problem l.propagator (filter (has l.fn.key.members) (range_with_len 1 l.place))
