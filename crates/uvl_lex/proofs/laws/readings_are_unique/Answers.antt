use Rattle.std.proofs.Common.{sym, ◌∙◌}
use Rattle.uvl_lex.proofs.laws.readings_are_unique.Goals as goal

pub returns : goal.returns
returns c = λ bytes one other a b. sym a ∙ b
