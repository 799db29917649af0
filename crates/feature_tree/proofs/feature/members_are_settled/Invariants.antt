use Rattle.std.proofs.Common.{◌≡◌, true, ℕ, ◌<◌, Some}
use Rattle.std.specs.List.{slice_get}
use Rattle.feature_tree.specs.declared.feature.Feature.{Feature}
use Rattle.feature_tree.specs.Truth.{is_in}
use Rattle.feature_tree.specs.Decided.{is_settled as settled}
use Rattle.feature_tree.proofs.feature.members_are_settled.Given as goal

abbrev pub invariant-loop-i : goal.invariant-loop-i
invariant-loop-i l = (k : ℕ) (feature : Feature) → k < l.i → slice_get l.features k ≡ Some feature → is_in l.in_set k ≡ true → settled l.in_set feature ≡ true
