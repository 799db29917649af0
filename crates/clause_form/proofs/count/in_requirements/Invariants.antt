use Rattle.std.proofs.Common.{◌≡◌, ◌+◌, ◌-◌, ◌^◌, ◌≤◌, map, drop}
use Rattle.config_reader.specs.Consistent.{formulas_of}
use Rattle.clause_form.specs.Gates.{gates, gates_of}
use Rattle.clause_form.specs.Parts.{capped, size_of}
use Rattle.clause_form.proofs.count.in_requirements.Given as goal

abbrev pub invariant-loop-requirement : goal.invariant-loop-requirement
invariant-loop-requirement l = (l.count ≤ 2 ^ 64 - 1) × (capped (l.count + size_of (map gates (map gates_of (formulas_of (drop l.requirement-index l.requirements))))) ≡ capped (size_of (map gates (map gates_of (formulas_of l.requirements)))))
