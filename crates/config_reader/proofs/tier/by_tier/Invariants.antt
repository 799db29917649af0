use Rattle.std.proofs.Common.{◌≡◌, map}
use Rattle.config_reader.specs.declared.placed.Placed.{Placed}
use Rattle.config_reader.proofs.tier.by_tier.Given as goal

abbrev pub invariant-loop-one : goal.invariant-loop-one
invariant-loop-one l = l.requirements ≡ map (λ (one : Placed). one.requirement) l.yielded
