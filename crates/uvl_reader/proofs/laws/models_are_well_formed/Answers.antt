use Rattle.uvl_reader.proofs.FormedLaws.{models_are_well_formed}
use Rattle.uvl_reader.proofs.laws.models_are_well_formed.Goals as goal

pub returns : goal.returns
returns c = models_are_well_formed
