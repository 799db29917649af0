use Rattle.std.proofs.Common.{ap}
use Rattle.check_table.specs.declared.view.MainView.{MainView}
use Rattle.check_table.proofs.Entries.{at_less}
use Rattle.check_table.proofs.Tested.{first_post, wanted_first}
use Rattle.check_table.proofs.tests.post_first.Goals as goal

pub returns-clause-wanted : goal.returns-clause-wanted
returns-clause-wanted c = wanted_first c.post-posted.new.main.sees c.args.main.now.sees c.args.key.now c.requires.new (first_post c.args.main.now.sees c.post-posted.new.main.sees _ c.args.key.now _ c.post-posted.result c.post-posted.ensures.full c.post-posted.ensures.at c.requires.new c.requires.room)

pub returns-clause-counts : goal.returns-clause-counts
returns-clause-counts c = let is = first_post c.args.main.now.sees c.post-posted.new.main.sees _ c.args.key.now _ c.post-posted.result c.post-posted.ensures.full c.post-posted.ensures.at c.requires.new c.requires.room in (ap (λ (m : MainView). m.made) is, ap (λ (m : MainView). m.left) is)

pub returns-clause-posted : goal.returns-clause-posted
returns-clause-posted c = at_less _ _ _ (wanted_first c.post-posted.new.main.sees c.args.main.now.sees c.args.key.now c.requires.new (first_post c.args.main.now.sees c.post-posted.new.main.sees _ c.args.key.now _ c.post-posted.result c.post-posted.ensures.full c.post-posted.ensures.at c.requires.new c.requires.room)).at
