use Rattle.std.proofs.Common.{map, ◌∙◌, arith}
use Rattle.std.proofs.lemmas.List.{at_drop_all}
use Rattle.std.proofs.lemmas.Result.{err_from_is_err_and}
use Rattle.uvl_reader.specs.inside.Standing.{with_items}
use Rattle.uvl_reader.proofs.ReadLaws.{items_next_at, items_refused_at, items_end}
use Rattle.uvl_reader.proofs.stated.Statements.read_items.Goals as goal

pub returns-in_err-read_item-clause-refused : goal.returns-in_err-read_item-clause-refused
returns-in_err-read_item-clause-refused c =
    let p = err_from_is_err_and c.from_residual.result c.from_residual.ensures.1 in
    rw (p.1, p.2) (items_refused_at c.args.line (λ item. item.now) c.args.items.now c.loop-item.item-index _ c.loop-item-test.true c.loop-item.self _ c.args.bytes.now _ c.loop-item.invariant c.in_err-read_item.ensures.refused)

pub loop-item-preserved : goal.loop-item-preserved
loop-item-preserved c =
    items_next_at c.args.line (λ item. item.now) c.args.items.now c.loop-item.item-index _ c.loop-item-test.true c.loop-item.self _ c.args.bytes.now c.read_item.new.self c.loop-item.invariant c.in_ok-read_item.ensures.ok

pub returns-clause-ok : goal.returns-clause-ok
returns-clause-ok c =
    c.loop-item.invariant ∙ at_drop_all (λ l. with_items c.args.bytes.now c.args.line c.loop-item.self (map (λ item. item.now) l)) c.args.items.now c.loop-item.item-index (omega arith)
    ∙ items_end c.args.line c.args.bytes.now c.loop-item.self
