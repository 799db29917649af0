use Rattle.std.proofs.Common.{◌≡◌, ◌∙◌, ap, ◌<◌, ◌≤◌, suc, ◌++◌, min, length, arith}
use Rattle.clauses.specs.Clause.{negative_of}
use Rattle.count_gates.specs.Table.{table_clauses}
use Rattle.count_gates.proofs.Rows.{row-length, row-more, rows-more, size-more, table_size-mono, width-more}
use Rattle.count_gates.proofs.table.count_table.Goals as goal

pub add_row-requires-clause-short : goal.add_row-requires-clause-short
add_row-requires-clause-short c =
    let short : length c.loop-child.last ≡ min c.loop-child.child-index c.args.upto =
    ap length c.loop-child.invariant.row ∙ row-length c.args.out.now.next_variable c.args.upto c.loop-child.child-index in
    omega arith

pub add_row-requires-clause-room : goal.add_row-requires-clause-room
add_row-requires-clause-room c =
    let wide = width-more c.args.out.now.next_variable c.args.upto c.loop-child.child-index c.loop-child.last c.loop-child.invariant.row in
    let within : suc c.loop-child.child-index ≤ length c.args.children.now = omega arith in
    let most = table_size-mono c.args.upto (suc c.loop-child.child-index) (length c.args.children.now) within in
    omega arith

pub loop-child-preserved : goal.loop-child-preserved
loop-child-preserved c =
    let within : c.loop-child.child-index < length c.args.children.now = omega arith in
    let made = row-more c.args.out.now.next_variable c.args.upto c.loop-child.child-index c.loop-child.out.next_variable c.loop-child.last c.in_ok-last.last c.loop-child.invariant.row c.loop-child.invariant.variable c.in_ok-last.ensures.row in
    record {
      row = made;
      variable = size-more c.args.out.now.next_variable c.args.upto c.loop-child.child-index c.loop-child.out.next_variable c.add_row.new.out.next_variable c.loop-child.last c.loop-child.invariant.row c.loop-child.invariant.variable c.in_ok-last.ensures.variable;
      clauses = rows-more c.args.out.now.next_variable c.args.upto c.loop-child.child-index c.args.children.now (negative_of 0) c.loop-child.last c.in_ok-last.last c.loop-child.out.clauses c.add_row.new.out.clauses (c.args.out.now.clauses ++ table_clauses c.args.out.now.next_variable c.args.upto c.args.children.now)
          within c.loop-child.invariant.row made c.loop-child.invariant.clauses c.in_ok-last.ensures.clauses;
    }

pub returns-clause-count : goal.returns-clause-count
returns-clause-count c =
    let size : length c.loop-child.last ≡ min c.loop-child.child-index c.args.upto =
    ap length c.loop-child.invariant.row ∙ row-length c.args.out.now.next_variable c.args.upto c.loop-child.child-index in
    omega arith
