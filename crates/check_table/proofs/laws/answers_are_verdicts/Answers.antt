use Rattle.check_table.proofs.RuleLaws.{right}
use Rattle.check_table.proofs.laws.answers_are_verdicts.Goals as goal

pub returns : goal.returns
returns c p size s r m t e v mark has at is = right p size s r m t e has at v mark is
