use Rattle.std.proofs.Common.{◌≡◌, length}
use Rattle.std.specs.Prelude.{reverse}
use Rattle.fast_diag.specs.inside.Remaining.{StandsAt, waiting}
use Rattle.fast_diag.proofs.parts.next_turn.Given as goal

abbrev pub invariant-loop-halves : goal.invariant-loop-halves
invariant-loop-halves l = record {
  same : waiting (reverse l.initial.halves) l.kept.members ≡ waiting (reverse l.halves) l.kept.members;
  place : StandsAt l.kept.n l.at l.kept l.halves;
}

abbrev pub decreases-loop-halves : goal.decreases-loop-halves
decreases-loop-halves l = length l.halves
