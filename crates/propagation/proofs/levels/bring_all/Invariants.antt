use Rattle.std.proofs.Common.{◌≡◌, ◌≤◌, ◌-◌, length, vec_capacity}
use Rattle.propagation.specs.inside.Levels.{IsStanding, IsTop}
use Rattle.propagation.proofs.levels.bring_all.Given as goal

abbrev pub invariant-loop-own : goal.invariant-loop-own
invariant-loop-own l = record {
  standing : IsStanding l.problem l.learned l.assumed l.trail l.own l.more l.marks.items l.base;
  top : IsTop l.problem l.learned l.assumed l.trail l.own l.more l.marks.items;
  some : length l.initial.marks.items ≤ length l.marks.items;
  room : vec_capacity l.marks ≡ vec_capacity l.initial.marks;
}

abbrev pub decreases-loop-own : goal.decreases-loop-own
decreases-loop-own l = length l.assumed - length l.marks.items
