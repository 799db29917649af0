use Rattle.std.proofs.Common.{◌∙◌, sym, ap, ◌-◌, true, Bool, List, length, take, get_or}
use Rattle.std.specs.Prelude.{slice_set}
use Rattle.std.proofs.lemmas.List.{take_more}
use Rattle.certificate.specs.Words.{set_of}
use Rattle.certificate.proofs.ProductLaws.{set_of-push}
use Rattle.certificate.proofs.products.put.Goals as goal

pub loop-number-preserved : goal.loop-number-preserved
loop-number-preserved c =
    let i = c.loop-number.number-index in
    let number = get_or c.args.numbers.now i 0 in
    ap (λ (set : List Bool). slice_set set (number - 1) true) c.loop-number.invariant
    ∙ set_of-push (length c.args.set.now) number (take i c.args.numbers.now) (c.requires.counted i 0 c.loop-number-test.true) (c.requires.within i 0 c.loop-number-test.true)
    ∙ ap (set_of (length c.args.set.now)) (sym (take_more c.args.numbers.now i 0 c.loop-number-test.true))
