use Rattle.std.proofs.Common.{◌≡◌, ◌+◌, ◌-◌, ◌^◌, ◌≤◌, ℕ, map, drop}
use Rattle.clause_form.specs.Groups.{group_part}
use Rattle.clause_form.specs.Parts.{capped, size_of}
use Rattle.clause_form.proofs.count.in_groups.Given as goal

abbrev pub invariant-loop-group : goal.invariant-loop-group
invariant-loop-group l = (l.count ≤ 2 ^ 64 - 1) × ((parent : ℕ) → capped (l.count + size_of (map (group_part parent) (drop l.group-index l.groups))) ≡ capped (size_of (map (group_part parent) l.groups)))
