use Rattle.std.proofs.Common.{◌∙◌, ap, sym, ◌≤◌, ◌++◌, length, arith}
use Rattle.count_gates.specs.Table.{row_clauses}
use Rattle.count_gates.proofs.Rows.{cells-more, cells-row, literals-more, fewer-more}
use Rattle.count_gates.proofs.table.add_row.Goals as goal

pub loop-j-preserved : goal.loop-j-preserved
loop-j-preserved c =
    let within : c.loop-j.j ≤ length c.args.before.now = omega arith in
    record {
      variable = omega arith;
      row = literals-more c.args.out.now.next_variable c.loop-j.j c.loop-j.out.next_variable c.in_ok-add_cell.field-0 c.loop-j.row c.push.new.self
          c.loop-j.invariant.variable c.in_ok-add_cell.ensures.literal c.loop-j.invariant.row c.in_ok-push.ensures.ok;
      fewer = λ l. fewer-more c.args.before.now c.loop-j.j c.literal_at-same.result c.literal_at-same.ensures l;
      clauses = cells-more c.args.out.now.next_variable c.args.before.now c.args.child c.loop-j.j c.loop-j.out.next_variable c.literal_at-same.result c.loop-j.fewer
          c.args.out.now.clauses c.loop-j.out.clauses c.add_cell.new.out.clauses c.loop-j.invariant.variable c.literal_at-same.ensures (c.loop-j.invariant.fewer within) c.loop-j.invariant.clauses c.in_ok-add_cell.ensures.clauses;
    }

pub returns-clause-clauses : goal.returns-clause-clauses
returns-clause-clauses c =
    c.loop-j.invariant.clauses
    ∙ ap (λ cells. c.args.out.now.clauses ++ cells) (cells-row c.args.out.now.next_variable c.loop-j.j c.args.before.now c.args.child)
    ∙ ap (λ row. c.args.out.now.clauses ++ row_clauses c.args.before.now row c.args.child) (sym c.loop-j.invariant.row)
