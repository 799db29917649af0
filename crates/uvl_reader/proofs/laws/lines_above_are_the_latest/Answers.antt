use Rattle.uvl_reader.proofs.NestingLaws.{above-latest}
use Rattle.uvl_reader.proofs.laws.lines_above_are_the_latest.Goals as goal

pub returns : goal.returns
returns c = above-latest
