use Rattle.std.proofs.Common.{◌≡◌, take}
use Rattle.config_reader.specs.Names.{names_from}
use Rattle.config_reader.proofs.names.names_of.Given as goal

abbrev pub invariant-loop-number : goal.invariant-loop-number
invariant-loop-number l = l.names ≡ names_from 0 (take l.number l.features)
