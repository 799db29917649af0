use Rattle.std.proofs.Common.{List, Bool, sym, subst}
use Rattle.req_keys.specs.Key.{PositionSet}
use Rattle.quick_xplain.specs.inside.Standing.{Stands}
use Rattle.quick_xplain.proofs.Standing.{stands-start}
use Rattle.quick_xplain.proofs.explanation.QuickXplain.new.Goals as goal

pub invariant_of-result : goal.invariant_of-result
invariant_of-result c =
    subst (λ (set : PositionSet). Stands set c.new-3.result c.in_ok-part.part) (sym c.in_ok-new.ensures.ok)
    (subst (λ (sats : List Bool). Stands c.in_ok-among.among sats c.in_ok-part.part) (sym c.new-3.ensures)
    (stands-start c.in_ok-among.among c.in_ok-part.part c.start.ensures.key c.in_ok-part.ensures.parts c.in_ok-part.ensures.plan))
