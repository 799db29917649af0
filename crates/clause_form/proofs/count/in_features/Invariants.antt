use Rattle.std.proofs.Common.{◌≡◌, ◌+◌, ◌-◌, ◌^◌, ◌≤◌, drop}
use Rattle.clause_form.specs.ClauseForm.{group_parts}
use Rattle.clause_form.proofs.Walks.{groups_from}
use Rattle.clause_form.specs.Parts.{capped, size_of}
use Rattle.clause_form.proofs.count.in_features.Given as goal

abbrev pub invariant-loop-feature : goal.invariant-loop-feature
invariant-loop-feature l = (l.count ≤ 2 ^ 64 - 1) × (capped (l.count + size_of (groups_from l.feature-index (drop l.feature-index l.features))) ≡ capped (size_of (group_parts l.features)))
