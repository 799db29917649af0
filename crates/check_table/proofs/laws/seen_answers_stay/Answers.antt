use Rattle.check_table.proofs.RuleLaws.{seen_word, seen_kept}
use Rattle.check_table.proofs.laws.seen_answers_stay.Goals as goal

pub returns : goal.returns
returns c p size s r m t e v has at seen = (seen_word p size s r m t e has at v seen, seen_kept p size s r m t e has at v seen)
