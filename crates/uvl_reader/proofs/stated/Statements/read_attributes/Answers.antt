use Rattle.std.proofs.Common.{◌<◌, length, All, sym, arith}
use Rattle.uvl_lex.specs.Text.{IsSpanOf}
use Rattle.uvl_reader.specs.Attributes.{items_of}
use Rattle.uvl_reader.proofs.PlacedLaws.{each_weaker}
use Rattle.uvl_reader.proofs.PartLaws.{Part, all_shown, items_parts}
use Rattle.uvl_reader.proofs.ReadLaws.{nothing_read}
use Rattle.uvl_reader.proofs.stated.Statements.read_attributes.Goals as goal

pub returns-then-is_empty-clause-ok : goal.returns-then-is_empty-clause-ok
returns-then-is_empty-clause-ok c = nothing_read c.args.line c.args.bytes.now c.args.self.now c.args.attributes.now (sym c.if-is_empty.ensures)

pub read_items-requires-clause-few : goal.read_items-requires-clause-few
read_items-requires-clause-few c =
    let P = IsSpanOf c.args.bytes.now in
    let parts = items_parts P c.args.attributes.now c.requires.spans in
    let few = c.requires.few in
    rw c.as_slice.ensures.value
    (all_shown (λ tokens. length tokens < 2147483648) (λ tokens. tokens.now) c.in_ok-items.items.items
    (rw c.in_ok-items.ensures (each_weaker (Part P (length c.args.attributes.now)) (λ tokens. length tokens < 2147483648) (λ tokens k. (let l = k.0 in omega arith)) (items_of c.args.attributes.now) parts)))

pub read_items-requires-clause-spans : goal.read_items-requires-clause-spans
read_items-requires-clause-spans c =
    let P = IsSpanOf c.args.bytes.now in
    let parts = items_parts P c.args.attributes.now c.requires.spans in
    rw c.as_slice.ensures.value
    (all_shown (λ tokens. All P tokens) (λ tokens. tokens.now) c.in_ok-items.items.items
    (rw c.in_ok-items.ensures (each_weaker (Part P (length c.args.attributes.now)) (λ tokens. All P tokens) (λ tokens k. k.1) (items_of c.args.attributes.now) parts)))
