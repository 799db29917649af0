use Rattle.check_table.proofs.RuleLaws.{mine_word, mine_runs}
use Rattle.check_table.proofs.laws.mine_is_unclaimed.Goals as goal

pub returns : goal.returns
returns c p size s r m t e has at mine = (mine_word p size s r m t e has at mine, mine_runs p size s r m t e has at mine)
