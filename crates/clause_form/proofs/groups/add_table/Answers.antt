use Rattle.std.proofs.Common.{ap, sym, ◌∙◌, ◌++◌, ◌≡◌, length, arith}
use Rattle.std.proofs.lemmas.List.{append-nil}
use Rattle.count_gates.specs.Table.{table_clauses, table_size}
use Rattle.clause_form.proofs.GroupsLaws.{rows-none, size-none}
use Rattle.clause_form.proofs.groups.add_table.Goals as goal

pub returns-then-upto-eq0-clause-clauses : goal.returns-then-upto-eq0-clause-clauses
returns-then-upto-eq0-clause-clauses c =
    let none : c.args.upto ≡ 0 = omega arith in
    let old = c.args.out.now.clauses in
    let first = c.args.out.now.next_variable in
    let children = c.args.children.now in
    sym (append-nil old) ∙ ap (λ these. old ++ these) (sym (rows-none first 0 children)) ∙ ap (λ upto. old ++ table_clauses first upto children) (sym none)

pub returns-then-upto-eq0-clause-variable : goal.returns-then-upto-eq0-clause-variable
returns-then-upto-eq0-clause-variable c =
    let none : c.args.upto ≡ 0 = omega arith in
    let size = ap (λ upto. table_size (length c.args.children.now) upto) none ∙ size-none (length c.args.children.now) in
    omega arith
