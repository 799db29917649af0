use Rattle.std.proofs.Common.{rules, ap, sym, ◌∙◌, ◌++◌}
use Rattle.std.proofs.lemmas.List.{append-nil}
use Rattle.clause_form.proofs.GroupsLaws.{high-none}
use Rattle.clause_form.proofs.groups.add_high.Goals as goal

pub returns-in-None-clause-clauses : goal.returns-in-None-clause-clauses
returns-in-None-clause-clauses c =
    rw c.in-Some.is (sym (append-nil c.args.out.now.clauses) ∙ ap (λ these. c.args.out.now.clauses ++ these) (sym (high-none c.args.parent c.in-Some.most c.args.row.now (search rules))))
