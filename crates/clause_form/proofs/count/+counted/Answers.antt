use Rattle.std.proofs.Common.{refl, map, arith}
use Rattle.clause_form.specs.Gates.{gates, gates_of}
use Rattle.clause_form.proofs.Sizes.{counted-all}
use Rattle.clause_form.proofs.count.+counted.Goals as goal

pub in_formulas-returns : goal.in_formulas-returns
in_formulas-returns t c =
    counted-all (λ fs. map gates (map gates_of fs)) c.args.formulas.now c.loop-formula.formula-index c.loop-formula.count _ c.loop-formula.invariant.0 (omega arith) refl c.loop-formula.invariant.1
