use Rattle.uvl_reader.proofs.NumberLaws.{line_numbers_rise, judged_numbers_rise}
use Rattle.uvl_reader.proofs.laws.line_numbers_rise.Goals as goal

pub returns-clause-lines : goal.returns-clause-lines
returns-clause-lines c = line_numbers_rise

pub returns-clause-judged : goal.returns-clause-judged
returns-clause-judged c = judged_numbers_rise
