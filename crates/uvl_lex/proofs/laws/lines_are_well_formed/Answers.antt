use Rattle.uvl_lex.proofs.LineLemmas.{readings_are_lines}
use Rattle.uvl_lex.proofs.laws.lines_are_well_formed.Goals as goal

pub returns : goal.returns
returns c = readings_are_lines
