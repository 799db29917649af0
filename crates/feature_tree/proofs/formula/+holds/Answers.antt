use Rattle.std.proofs.Common.{rules, false, ◌∙◌, sym}
use Rattle.std.proofs.lemmas.Option.{unwrap_or-slice_get}
use Rattle.feature_tree.specs.declared.formula.Formula.TheViews.{the_lemmas}
use Rattle.feature_tree.proofs.Formulas.{truth-Name, truth-All, truth-Any, NamesBelow-Name, NamesBelow-Not, NamesBelow-All, NamesBelow-Any, NamesBelow-Implies, NamesBelow-Same}
use Rattle.feature_tree.proofs.formula.+holds.Goals as goal

pub Formula::holds-bounds-in_set-feature : goal.Formula::holds-bounds-in_set-feature
Formula::holds-bounds-in_set-feature t c = NamesBelow-Name _ _ (rw c.in-Name.is at c.requires)

pub Formula::holds-holds-requires : goal.Formula::holds-holds-requires
Formula::holds-holds-requires t c = (search (rules, the_lemmas), rw c.get.ensures (NamesBelow-Not _ _ (rw c.in-Not.is at c.requires)))

pub Formula::holds-all_hold-requires : goal.Formula::holds-all_hold-requires
Formula::holds-all_hold-requires t c = (search (rules, the_lemmas), rw c.as_slice.ensures (NamesBelow-All _ _ (rw c.in-All.is at c.requires)))

pub Formula::holds-any_holds-requires : goal.Formula::holds-any_holds-requires
Formula::holds-any_holds-requires t c = (search (rules, the_lemmas), rw c.as_slice-in-Any.ensures (NamesBelow-Any _ _ (rw c.in-Any.is at c.requires)))

pub Formula::holds-holds-requires-in-Implies : goal.Formula::holds-holds-requires-in-Implies
Formula::holds-holds-requires-in-Implies t c = (search (rules, the_lemmas), rw c.get-in-Implies.ensures (NamesBelow-Implies _ _ _ (rw c.in-Implies.is at c.requires)).0)

pub Formula::holds-holds-requires-else-not-holds : goal.Formula::holds-holds-requires-else-not-holds
Formula::holds-holds-requires-else-not-holds t c = (search (rules, the_lemmas), rw c.get-else-not-holds.ensures (NamesBelow-Implies _ _ _ (rw c.in-Implies.is at c.requires)).1)

pub Formula::holds-holds-requires-in-Same : goal.Formula::holds-holds-requires-in-Same
Formula::holds-holds-requires-in-Same t c = (search (rules, the_lemmas), rw c.get-in-Same.ensures (NamesBelow-Same _ _ _ (rw c.in-Same.is at c.requires)).0)

pub Formula::holds-holds-requires-in-Same-2 : goal.Formula::holds-holds-requires-in-Same-2
Formula::holds-holds-requires-in-Same-2 t c = (search (rules, the_lemmas), rw c.get-in-Same-2.ensures (NamesBelow-Same _ _ _ (rw c.in-Same.is at c.requires)).1)

pub Formula::holds-returns-in-Name : goal.Formula::holds-returns-in-Name
Formula::holds-returns-in-Name t c = rw c.in-Name.is (sym (unwrap_or-slice_get c.args.in_set.now c.in-Name.feature false) ∙ sym (truth-Name _ _))

pub Formula::holds-returns-in-All : goal.Formula::holds-returns-in-All
Formula::holds-returns-in-All t c = rw (c.all_hold.ensures, c.as_slice.ensures, c.in-All.is) (sym (truth-All _ _))

pub Formula::holds-returns-in-Any : goal.Formula::holds-returns-in-Any
Formula::holds-returns-in-Any t c = rw (c.any_holds.ensures, c.as_slice-in-Any.ensures, c.in-Any.is) (sym (truth-Any _ _))
