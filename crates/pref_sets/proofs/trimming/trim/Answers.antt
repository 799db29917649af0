use Rattle.pref_sets.proofs.TrimmedBehind.{IsTrimmed-from_behind}
use Rattle.pref_sets.proofs.trimming.trim.Goals as goal

pub returns-clause-trimmed : goal.returns-clause-trimmed
returns-clause-trimmed g c =
    rw c.from_vec.ensures
    (IsTrimmed-from_behind (g.T.MonotoneTest.yes c.args.test.now) c.args.items.now c.in_ok-left.left.items c.requires.distinct
    (rw c.new-background.ensures.items at c.in_ok-left.ensures.left))
