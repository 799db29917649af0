use Rattle.std.proofs.Common.{◌≡◌, take, map}
use Rattle.feature_tree.specs.Numbered.{numbered}
use Rattle.feature_tree.proofs.+numbered.Given as goal

abbrev pub invariant-numbered::all_numbered-loop-formula : goal.invariant-numbered::all_numbered-loop-formula
invariant-numbered::all_numbered-loop-formula l = l.row ≡ map (numbered l.of) (take l.formula-index l.formulas)
