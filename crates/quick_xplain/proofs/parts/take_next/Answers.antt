use Rattle.std.proofs.Common.{◌≡◌, ◌-◌, length, sym, ◌∙◌, arith}
use Rattle.std.proofs.lemmas.Bool.{eqb-false}
use Rattle.quick_xplain.proofs.WaitingHalves.{parted}
use Rattle.quick_xplain.proofs.parts.take_next.Goals as goal

pub returns : goal.returns
returns c =
    let some : length c.args.halves.now ≡ 0 → ⊥ = eqb-false (length c.args.halves.now) 0 (sym c.is_empty.ensures ∙ c.if-is_empty.false) in
    parted (c.len-last.result - 1) c.args.halves.now c.truncate.new.self c.get-half.result.now (omega (arith, some)) c.truncate.ensures c.get-half.ensures
