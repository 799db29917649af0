use Rattle.std.proofs.Common.{◌≡◌, true, take}
use Rattle.std.specs.List.{list_all}
use Rattle.config_reader.specs.Consistent.{formulas_at}
use Rattle.feature_tree.specs.Truth.{truth}
use Rattle.certificate.proofs.products.requirements_hold.Given as goal

abbrev pub invariant-loop-position : goal.invariant-loop-position
invariant-loop-position l = list_all (truth l.set) (formulas_at l.fn.config (take l.position-index l.position-items)) ≡ true
