use Rattle.std.proofs.Common.{◌<◌, length, sym, arith}
use Rattle.uvl_lex.specs.Text.{IsSpanOf}
use Rattle.uvl_reader.proofs.PlacedLaws.{each_weaker}
use Rattle.uvl_reader.proofs.PartLaws.{Part, all_shown, formulas_parts}
use Rattle.uvl_reader.proofs.stated.Statements.read_item.Goals as goal

pub read_all-requires : goal.read_all-requires
read_all-requires c =
    let found = rw c.in-Some.is at c.in_ok-formulas.ensures in
    let parts = formulas_parts (IsSpanOf c.args.bytes.now) c.args.bytes.now c.args.item.now _ (sym found) c.requires.spans in
    let few = c.requires.few in
    rw c.as_slice.ensures.value
    (all_shown (λ tokens. length tokens < 2147483648) (λ tokens. tokens.now) c.in-Some.formulas.items
    (each_weaker (Part (IsSpanOf c.args.bytes.now) (length c.args.item.now)) (λ tokens. length tokens < 2147483648) (λ tokens k. (let l = k.0 in omega arith)) _ parts))
