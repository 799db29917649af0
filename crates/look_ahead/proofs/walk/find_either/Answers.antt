use Rattle.look_ahead.specs.inside.Levels.{seen}
use Rattle.look_ahead.proofs.LevelSteps.{found-either}
use Rattle.look_ahead.proofs.walk.find_either.Goals as goal

pub returns : goal.returns
returns g c =
    found-either (seen g.A.Asker.wants g.A.Asker.told) c.args.asker.now c.args.found.now.keys c.find_further.new.found.keys c.find_further-2.new.found.keys c.in_ok-find_further.ensures c.in_ok-find_further-2.ensures
