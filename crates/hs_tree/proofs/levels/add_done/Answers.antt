use Rattle.std.proofs.Common.{◌≡◌, ℕ, Option, List, sym, subst}
use Rattle.std.specs.Prelude.{OnOk}
use Rattle.std.proofs.lemmas.Option.{slice_get_within}
use Rattle.hs_tree.specs.Tree.{with_children}
use Rattle.hs_tree.specs.inside.Places.{sets_of}
use Rattle.hs_tree.specs.inside.Steps.{with_label}
use Rattle.hs_tree.proofs.FoundLists.{at_place-key}
use Rattle.hs_tree.proofs.ToldAnswers.{got, got-is}
use Rattle.hs_tree.proofs.levels.add_done.Goals as goal

pub add_children-requires-clause-label : goal.add_children-requires-clause-label
add_children-requires-clause-label c = c.requires.conflicts c.get.result.now (got c.args.conflicts.now c.in-Some.place c.get.result.now c.get.ensures)

pub returns-in-Some-clause-sets : goal.returns-in-Some-clause-sets
returns-in-Some-clause-sets c =
    let conflicts = c.args.conflicts.now in
    let key = c.get.result.now in
    subst (λ (label : Option ℕ). OnOk c.add_children.result (sets_of c.add_children.new.next.keys ≡ with_label (sets_of conflicts) c.args.set.now.members label (sets_of c.args.next.now.keys))) (sym c.in-Some.is)
    (subst (λ (label : List ℕ). OnOk c.add_children.result (sets_of c.add_children.new.next.keys ≡ with_children c.args.set.now.members label (sets_of c.args.next.now.keys)))
    (sym (at_place-key conflicts c.in-Some.place key (slice_get_within conflicts c.in-Some.place key c.get.ensures) (got-is conflicts c.in-Some.place key c.get.ensures)))
    c.add_children.ensures.sets)
