use Rattle.std.proofs.Common.{◌≡◌, take}
use Rattle.config_reader.proofs.copies.+copied.Given as goal

abbrev pub invariant-all_copied-loop-formula : goal.invariant-all_copied-loop-formula
invariant-all_copied-loop-formula l = l.row ≡ take l.formula-index l.formulas
