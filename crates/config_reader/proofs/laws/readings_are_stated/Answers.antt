use Rattle.config_reader.proofs.Named.{readings_stated}
use Rattle.config_reader.proofs.laws.readings_are_stated.Goals as goal

pub returns : goal.returns
returns c = readings_stated
