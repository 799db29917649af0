use Rattle.std.proofs.Common.{◌≤◌, ◌-◌, length, take}
use Rattle.propagation.specs.inside.Watching.{AreCovered}
use Rattle.propagation.proofs.PropagateLaws.{IsGoing}
use Rattle.propagation.proofs.propagating.propagate.Given as goal

abbrev pub invariant-loop-head : goal.invariant-loop-head
invariant-loop-head l = record {
  within : l.head ≤ length l.trail.literals;
  going : IsGoing l.problem l.learned l.initial.trail l.initial.own l.initial.more l.trail l.own l.more;
  own_covered : AreCovered (take l.head l.trail.literals) l.trail.literals l.own.watched;
  more_covered : AreCovered (take l.head l.trail.literals) l.trail.literals l.more.watched;
}

abbrev pub decreases-loop-head : goal.decreases-loop-head
decreases-loop-head l = l.trail.variables - l.head
