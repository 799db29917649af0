use Rattle.std.proofs.Common.{◌∙◌, sym, refl, inl}
use Rattle.clauses.proofs.Literals.{from_has}
use Rattle.propagation.proofs.trail.Trail.take_in.Goals as goal

pub returns-else-not-is_true : goal.returns-else-not-is_true
returns-else-not-is_true c = inl (refl, from_has c.args.self.now.literals c.args.literal (sym c.is_true.ensures.answer ∙ c.if-not-is_true.false))
