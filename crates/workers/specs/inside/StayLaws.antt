-- What a stop keeps it keeps over any number of polls.
use Rattle.std.proofs.Common.{refl, ◌∙◌}
use Rattle.workers.specs.Stopping.{Stopping}
use Rattle.workers.specs.inside.Staying.{SeatStays}

pub stays-reflexive : (a : Stopping) → SeatStays a a
stays-reflexive a = record {
  table = refl;
  seat_table = refl;
  problem = refl;
  sized = refl;
  number = refl;
  stage = refl;
  done = refl;
  stop = λ saw. saw;
  mark = λ saw. saw;
}

pub stays-transitive : (a b c : Stopping) → SeatStays a b → SeatStays b c → SeatStays a c
stays-transitive a b c first second = record {
  table = second.table ∙ first.table;
  seat_table = second.seat_table ∙ first.seat_table;
  problem = second.problem ∙ first.problem;
  sized = second.sized ∙ first.sized;
  number = second.number ∙ first.number;
  stage = second.stage ∙ first.stage;
  done = second.done ∙ first.done;
  stop = λ saw. second.stop (first.stop saw);
  mark = λ saw. second.mark (first.mark saw);
}
