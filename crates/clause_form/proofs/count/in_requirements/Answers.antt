use Rattle.std.proofs.Common.{refl, map, arith}
use Rattle.config_reader.specs.Consistent.{formulas_of}
use Rattle.clause_form.specs.Gates.{gates, gates_of}
use Rattle.clause_form.proofs.Sizes.{counted-all}
use Rattle.clause_form.proofs.count.in_requirements.Goals as goal

pub returns : goal.returns
returns c =
    counted-all (λ rs. map gates (map gates_of (formulas_of rs))) c.args.requirements.now c.loop-requirement.requirement-index c.loop-requirement.count _ c.loop-requirement.invariant.0 (omega arith) refl c.loop-requirement.invariant.1
