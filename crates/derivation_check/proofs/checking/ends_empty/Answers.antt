use Rattle.std.proofs.Common.{◌∙◌, sym, ap, length}
use Rattle.std.specs.Prelude.{◌-◌, slice_get}
use Rattle.derivation_check.proofs.CheckLaws.{ends-last}
use Rattle.derivation_check.proofs.checking.ends_empty.Goals as goal

pub returns-in-Some : goal.returns-in-Some
returns-in-Some c =
    c.is_empty.ensures
    ∙ sym (ends-last c.args.lines.now c.in-Some.line.now (ap (λ ls. slice_get ls (length ls - 1)) (sym c.as_slice.ensures) ∙ sym c.in-Some.ensures.value))
