use Rattle.std.proofs.Common.{◌≡◌, ◌≤◌, length}
use Rattle.propagation.proofs.tests.assume_all.Given as goal

abbrev pub invariant-loop-letter : goal.invariant-loop-letter
invariant-loop-letter l = (l.propagator.problem ≡ l.fn.propagator.problem) × (length l.propagator.assumed ≤ l.letter-index)
