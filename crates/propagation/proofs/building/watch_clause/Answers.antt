use Rattle.std.proofs.Common.{◌∙◌, sym, ap, inr, [], ◌∷◌, ◌++◌}
use Rattle.clauses.specs.Clause.{negation}
use Rattle.clauses.proofs.Literals.{from_has}
use Rattle.propagation.specs.inside.Watching.{Watching}
use Rattle.propagation.proofs.BuildLaws.{only-one, only-refuted}
use Rattle.propagation.proofs.building.watch_clause.Goals as goal

pub returns-then-is_false : goal.returns-then-is_false
returns-then-is_false c = only-refuted c.args.trail.now.literals c.args.clause.now c.in-Alone.one c.in-Alone.ensures.0 (from_has c.args.trail.now.literals (negation c.in-Alone.one) (sym c.is_false.ensures ∙ c.if-is_false.true))

pub returns-else-is_false : goal.returns-else-is_false
returns-else-is_false c = record {
  one = c.in-Alone.one;
  other = c.in-Alone.one;
  one_in = c.in-Alone.ensures.0.inside;
  other_in = c.in-Alone.ensures.0.inside;
  attached = ap (λ (w : Watching). w.watched) c.attach-in-Alone.ensures ∙ ap (λ ls. ls ++ c.in-Alone.one ∷ c.in-Alone.one ∷ []) c.in_ok-reserve.ensures.watched;
  variables = ap (λ (w : Watching). w.variables) c.attach-in-Alone.ensures ∙ c.in_ok-reserve.ensures.variables;
  pairs = ap (λ (w : Watching). w.pairs) c.attach-in-Alone.ensures ∙ c.in_ok-reserve.ensures.pairs;
  either = inr (only-one c.args.clause.now c.in-Alone.one c.in-Alone.ensures.0, c.take_in.ensures);
}
