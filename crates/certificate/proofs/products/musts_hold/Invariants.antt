use Rattle.std.proofs.Common.{◌≡◌, true, take}
use Rattle.std.specs.List.{list_all}
use Rattle.config_reader.specs.declared.config.Requirement.{Requirement}
use Rattle.feature_tree.specs.Truth.{truth}
use Rattle.certificate.proofs.products.musts_hold.Given as goal

abbrev pub invariant-loop-must : goal.invariant-loop-must
invariant-loop-must l = list_all (λ (must : Requirement). truth l.set must.formula) (take l.must-index l.musts) ≡ true
