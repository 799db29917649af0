use Rattle.std.proofs.Common.{rules, sym, subst, ◌≡◌, All, map}
use Rattle.std.proofs.lemmas.List.Elements.{All-map}
use Rattle.clauses.specs.Clause.{positive_of}
use Rattle.clauses.specs.Problem.{IsBelow}
use Rattle.clause_form.proofs.groups.add_group.Goals as goal

pub add_range-requires-clause-below : goal.add_range-requires-clause-below
add_range-requires-clause-below c =
    let is : c.as_slice-children.result.now ≡ map positive_of c.args.group.now.children = search rules in
    subst (All (IsBelow c.args.out.now.next_variable)) (sym is) (All-map (IsBelow c.args.out.now.next_variable) positive_of c.args.group.now.children c.requires.below)

pub add_range-requires-in-Range-clause-below : goal.add_range-requires-in-Range-clause-below
add_range-requires-in-Range-clause-below c =
    let is : c.as_slice-children.result.now ≡ map positive_of c.args.group.now.children = search rules in
    subst (All (IsBelow c.args.out.now.next_variable)) (sym is) (All-map (IsBelow c.args.out.now.next_variable) positive_of c.args.group.now.children c.requires.below)
