use Rattle.propagation.specs.inside.RootTrials.{IsCommon}
use Rattle.propagation.proofs.roots.common_roots.Given as goal

abbrev pub invariant-loop-place : goal.invariant-loop-place
invariant-loop-place l = IsCommon l.propagator.problem l.key l.propagator.assumed (record { place = l.place; count = l.count })
