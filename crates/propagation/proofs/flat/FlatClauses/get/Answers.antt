use Rattle.std.proofs.Common.{◌∙◌, ◌-◌, ap, arith, length, take, drop}
use Rattle.propagation.proofs.FlatLaws.{inside, end-inside, begin-inside, later-clause}
use Rattle.propagation.proofs.flat.FlatClauses.get.Goals as goal

pub index-end-requires : goal.index-end-requires
index-end-requires c = let low = inside c.self.inside.ends.items c.self.inside.row.items c.args.self.now c.self.view_is c.args.number c.requires in omega arith

pub slice_bounds-result-end : goal.slice_bounds-result-end
slice_bounds-result-end c =
    let low = end-inside c.self.inside.ends.items c.self.inside.row.items c.args.self.now c.self.view_is c.args.number c.requires c.self.invariant c.index-end.result.now c.index-end.ensures in
    let size = ap length c.deref.ensures.value in
    omega arith

pub index-requires : goal.index-requires
index-requires c = let low = inside c.self.inside.ends.items c.self.inside.row.items c.args.self.now c.self.view_is c.args.number c.requires in omega arith

pub offset_bounds-deref-index : goal.offset_bounds-deref-index
offset_bounds-deref-index c =
    let low = begin-inside c.self.inside.ends.items c.self.inside.row.items c.args.self.now c.self.view_is c.args.number c.requires c.self.invariant c.index-end.result.now c.index-end.ensures c.index.result.now c.if-number-eq0.false c.index.ensures in
    let top = end-inside c.self.inside.ends.items c.self.inside.row.items c.args.self.now c.self.view_is c.args.number c.requires c.self.invariant c.index-end.result.now c.index-end.ensures in
    let size = ap length c.deref-else-number-eq0.ensures.value in
    omega arith

pub slice_bounds-result-count-else-number-eq0 : goal.slice_bounds-result-count-else-number-eq0
slice_bounds-result-count-else-number-eq0 c =
    begin-inside c.self.inside.ends.items c.self.inside.row.items c.args.self.now c.self.view_is c.args.number c.requires c.self.invariant c.index-end.result.now c.index-end.ensures c.index.result.now c.if-number-eq0.false c.index.ensures

pub slice_bounds-result-start-else-number-eq0 : goal.slice_bounds-result-start-else-number-eq0
slice_bounds-result-start-else-number-eq0 c = begin-inside c.self.inside.ends.items c.self.inside.row.items c.args.self.now c.self.view_is c.args.number c.requires c.self.invariant c.index-end.result.now c.index-end.ensures c.index.result.now c.if-number-eq0.false c.index.ensures

pub slice_bounds-result-end-else-number-eq0 : goal.slice_bounds-result-end-else-number-eq0
slice_bounds-result-end-else-number-eq0 c =
    let low = end-inside c.self.inside.ends.items c.self.inside.row.items c.args.self.now c.self.view_is c.args.number c.requires c.self.invariant c.index-end.result.now c.index-end.ensures in
    let size = ap length c.deref-else-number-eq0.ensures.value in
    omega arith

pub returns-else-number-eq0 : goal.returns-else-number-eq0
returns-else-number-eq0 c =
    ap (λ row. take (c.index-end.result.now - c.index.result.now) (drop c.index.result.now row)) c.deref-else-number-eq0.ensures.value
    ∙ later-clause c.self.inside.ends.items c.self.inside.row.items c.args.self.now c.self.view_is c.args.number c.requires c.self.invariant c.index-end.result.now c.index-end.ensures c.index.result.now c.if-number-eq0.false c.index.ensures
