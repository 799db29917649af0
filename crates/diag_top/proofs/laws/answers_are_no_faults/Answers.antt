use Rattle.diag_top.proofs.AnswerLaws.{answers_are_no_faults}
use Rattle.diag_top.proofs.laws.answers_are_no_faults.Goals as goal

pub returns : goal.returns
returns c = answers_are_no_faults
