use Rattle.std.proofs.Common.{◌≡◌}
use Rattle.propagation.proofs.tests.learn_all.Given as goal

abbrev pub invariant-loop-word : goal.invariant-loop-word
invariant-loop-word l = (l.propagator.problem ≡ l.fn.propagator.problem) × (l.propagator.assumed ≡ l.fn.propagator.assumed)
