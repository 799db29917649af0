use Rattle.std.proofs.Common.{◌≡◌, ◌+◌, ◌-◌, ◌^◌, ◌≤◌, map, drop}
use Rattle.clause_form.specs.Gates.{gates, gates_of}
use Rattle.clause_form.specs.Parts.{capped, size_of}
use Rattle.clause_form.proofs.count.+counted.Given as goal

abbrev pub invariant-in_formulas-loop-formula : goal.invariant-in_formulas-loop-formula
invariant-in_formulas-loop-formula l = (l.count ≤ 2 ^ 64 - 1) × (capped (l.count + size_of (map gates (map gates_of (drop l.formula-index l.formulas)))) ≡ capped (size_of (map gates (map gates_of l.formulas))))
