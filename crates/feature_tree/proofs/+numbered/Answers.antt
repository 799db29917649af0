use Rattle.std.proofs.Common.{rules, sym}
use Rattle.feature_tree.specs.declared.formula.Formula.TheViews.{the_lemmas}
use Rattle.feature_tree.proofs.Formulas.{NamesBelow-Name, NamesBelow-Not, NamesBelow-All, NamesBelow-Any, NamesBelow-Implies, NamesBelow-Same}
use Rattle.feature_tree.proofs.NumberedLaws.{numbered-within}
use Rattle.feature_tree.proofs.+numbered.Goals as goal

pub formula::Formula::numbered-bounds-of-name : goal.formula::Formula::numbered-bounds-of-name
formula::Formula::numbered-bounds-of-name t c = NamesBelow-Name _ _ (rw c.in-Name.is at c.requires)

pub formula::Formula::numbered-boxed-requires : goal.formula::Formula::numbered-boxed-requires
formula::Formula::numbered-boxed-requires t c = (search (rules, the_lemmas), rw c.get.ensures (NamesBelow-Not _ _ (rw c.in-Not.is at c.requires)))

pub formula::Formula::numbered-all_numbered-requires : goal.formula::Formula::numbered-all_numbered-requires
formula::Formula::numbered-all_numbered-requires t c = (search (rules, the_lemmas), rw c.as_slice.ensures (NamesBelow-All _ _ (rw c.in-All.is at c.requires)))

pub formula::Formula::numbered-all_numbered-requires-in-Any : goal.formula::Formula::numbered-all_numbered-requires-in-Any
formula::Formula::numbered-all_numbered-requires-in-Any t c = (search (rules, the_lemmas), rw c.as_slice-in-Any.ensures (NamesBelow-Any _ _ (rw c.in-Any.is at c.requires)))

pub formula::Formula::numbered-boxed-requires-in-Implies : goal.formula::Formula::numbered-boxed-requires-in-Implies
formula::Formula::numbered-boxed-requires-in-Implies t c = (search (rules, the_lemmas), rw c.get-in-Implies.ensures (NamesBelow-Implies _ _ _ (rw c.in-Implies.is at c.requires)).0)

pub formula::Formula::numbered-boxed-requires-in-Implies-2 : goal.formula::Formula::numbered-boxed-requires-in-Implies-2
formula::Formula::numbered-boxed-requires-in-Implies-2 t c = (search (rules, the_lemmas), rw c.get-in-Implies-2.ensures (NamesBelow-Implies _ _ _ (rw c.in-Implies.is at c.requires)).1)

pub formula::Formula::numbered-boxed-requires-in-Same : goal.formula::Formula::numbered-boxed-requires-in-Same
formula::Formula::numbered-boxed-requires-in-Same t c = (search (rules, the_lemmas), rw c.get-in-Same.ensures (NamesBelow-Same _ _ _ (rw c.in-Same.is at c.requires)).0)

pub formula::Formula::numbered-boxed-requires-in-Same-2 : goal.formula::Formula::numbered-boxed-requires-in-Same-2
formula::Formula::numbered-boxed-requires-in-Same-2 t c = (search (rules, the_lemmas), rw c.get-in-Same-2.ensures (NamesBelow-Same _ _ _ (rw c.in-Same.is at c.requires)).1)

pub formula::Formula::numbered-returns-in-Name : goal.formula::Formula::numbered-returns-in-Name
formula::Formula::numbered-returns-in-Name t c = rw c.in-Name.is (sym (numbered-within c.args.of.now c.in-Name.name (NamesBelow-Name _ _ (rw c.in-Name.is at c.requires))))
