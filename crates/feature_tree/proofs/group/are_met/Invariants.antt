use Rattle.std.proofs.Common.{◌≡◌, true, take}
use Rattle.std.specs.List.{list_all}
use Rattle.feature_tree.specs.Decided.{is_met as meets}
use Rattle.feature_tree.proofs.group.are_met.Given as goal

abbrev pub invariant-loop-group : goal.invariant-loop-group
invariant-loop-group l = list_all (meets l.in_set) (take l.group-index l.groups) ≡ true
