use Rattle.std.proofs.Common.{◌≡◌, take}
use Rattle.config_reader.proofs.config.Config.of_musts.Given as goal

abbrev pub invariant-loop-must : goal.invariant-loop-must
invariant-loop-must l = l.requirements ≡ take l.must-index l.must-items
