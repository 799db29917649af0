use Rattle.std.proofs.Common.{List, Bool, sym, subst}
use Rattle.fast_diag.specs.inside.Standing.{Stands}
use Rattle.fast_diag.proofs.Standing.{stands-start}
use Rattle.fast_diag.proofs.diagnosis.FastDiag.new.Goals as goal

pub invariant_of-result : goal.invariant_of-result
invariant_of-result c =
    subst (λ (sats : List Bool). Stands c.args.n sats c.in_ok-start.field-0) (sym c.new.ensures)
    (stands-start c.args.n c.in_ok-start.field-0 c.in_ok-start.ensures.parts c.in_ok-start.ensures.plan)
