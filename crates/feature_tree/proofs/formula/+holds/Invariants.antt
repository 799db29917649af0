use Rattle.std.proofs.Common.{◌≡◌, true, false, take}
use Rattle.std.specs.List.{list_all, list_any}
use Rattle.feature_tree.specs.Truth.{truth}
use Rattle.feature_tree.proofs.formula.+holds.Given as goal

abbrev pub invariant-all_hold-loop-formula : goal.invariant-all_hold-loop-formula
invariant-all_hold-loop-formula l = list_all (truth l.in_set) (take l.formula-index l.formulas) ≡ true

abbrev pub invariant-any_holds-loop-formula : goal.invariant-any_holds-loop-formula
invariant-any_holds-loop-formula l = list_any (truth l.in_set) (take l.formula-index l.formulas) ≡ false
