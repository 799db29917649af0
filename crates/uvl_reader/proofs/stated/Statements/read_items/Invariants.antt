use Rattle.std.proofs.Common.{◌≡◌, drop, map}
use Rattle.uvl_reader.specs.inside.Standing.{with_items}
use Rattle.uvl_reader.proofs.stated.Statements.read_items.Given as goal

abbrev pub invariant-loop-item : goal.invariant-loop-item
invariant-loop-item l = with_items l.bytes l.line l.fn.self (map (λ item. item.now) l.items) ≡ with_items l.bytes l.line l.self (map (λ item. item.now) (drop l.item-index l.items))
