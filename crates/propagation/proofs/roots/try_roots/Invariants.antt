use Rattle.propagation.specs.inside.RootTrials.{members_to}
use Rattle.propagation.proofs.RootLaws.{AreAssumed}
use Rattle.propagation.proofs.roots.try_roots.Given as goal

abbrev pub invariant-loop-place : goal.invariant-loop-place
invariant-loop-place l = AreAssumed l.fn.propagator.problem l.propagator (members_to l.key l.place)
