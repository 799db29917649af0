use Rattle.std.proofs.Common.{◌≡◌, ◌+◌, sym, ◌∙◌, arith}
use Rattle.config_reader.proofs.NameMap.{name_is_new, names_from-take}
use Rattle.config_reader.proofs.names.names_of.Goals as goal

pub insert-requires : goal.insert-requires
insert-requires c =
    let new = name_is_new c.args.features.now c.loop-number.number c.index-features-number.result c.requires.differ c.loop-number-test.true in
    rw (c.as_slice.ensures, c.loop-number.invariant) (rw (← c.index-features-number.is) at new)

pub loop-number-preserved : goal.loop-number-preserved
loop-number-preserved c =
    let more = names_from-take 0 c.loop-number.number c.args.features.now c.index-features-number.result c.loop-number-test.true in
    let e : 0 + c.loop-number.number ≡ c.loop-number.number = omega arith in
    let grown = rw (e, ← c.index-features-number.is) at more in
    c.in_ok-insert.ensures.ok ∙ rw (c.as_slice.ensures, c.loop-number.invariant) (sym grown)
