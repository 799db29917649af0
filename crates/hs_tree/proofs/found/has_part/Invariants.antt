use Rattle.std.proofs.Common.{◌≡◌, drop}
use Rattle.std.specs.List.{list_any}
use Rattle.hs_tree.specs.Tree.{is_within}
use Rattle.hs_tree.specs.inside.Places.{sets_of}
use Rattle.hs_tree.proofs.found.has_part.Given as goal

abbrev pub invariant-loop-diagnosis : goal.invariant-loop-diagnosis
invariant-loop-diagnosis l = list_any (λ diagnosis. is_within diagnosis l.set.members) (sets_of (drop l.diagnosis-index l.diagnoses)) ≡ list_any (λ diagnosis. is_within diagnosis l.set.members) (sets_of l.diagnoses)
