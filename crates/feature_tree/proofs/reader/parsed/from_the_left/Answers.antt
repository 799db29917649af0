use Rattle.std.proofs.Common.{arith}
use Rattle.feature_tree.specs.inside.Descent.{pair_of, IsLow}
use Rattle.feature_tree.proofs.Heights.{left_step, left_too_high, All-rest}
use Rattle.feature_tree.proofs.reader.parsed.from_the_left.Goals as goal

pub returns-then-whole-room-clause-answers : goal.returns-then-whole-room-clause-answers
returns-then-whole-room-clause-answers c =
    left_too_high (pair_of c.args.level) c.args.room _ c.in_ok-whole.whole c.next.new.self.rest.items
    (left_step (pair_of c.args.level) _ c.loop-next.whole c.loop-next.next-iterator.rest.items c.in-Some.next c.next.new.self.rest.items c.in_ok-whole.whole
    c.loop-next.invariant.whole c.in-Some.ensures.steps.0 c.in_ok-whole.ensures)
    c.if-whole-room.true

pub loop-next-preserved : goal.loop-next-preserved
loop-next-preserved c = record {
  whole = left_step (pair_of c.args.level) _ c.loop-next.whole c.loop-next.next-iterator.rest.items c.in-Some.next c.next.new.self.rest.items c.in_ok-whole.whole
      c.loop-next.invariant.whole c.in-Some.ensures.steps.0 c.in_ok-whole.ensures;
  low = omega arith;
  rest_is_low = All-rest (IsLow c.args.room) c.loop-next.next-iterator.rest.items c.in-Some.next c.next.new.self.rest.items c.in-Some.ensures.steps.0 c.loop-next.invariant.rest_is_low;
}
