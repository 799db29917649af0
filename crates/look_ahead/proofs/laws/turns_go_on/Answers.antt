use Rattle.std.proofs.Common.{[]}
use Rattle.script.specs.Sequential.{needs}
use Rattle.look_ahead.specs.Posting.{nothing_posted}
use Rattle.look_ahead.proofs.TurnLaws.{idle-turns, turns-push}
use Rattle.look_ahead.proofs.laws.turns_go_on.Goals as goal

pub returns-clause-one_more : goal.returns-clause-one_more
returns-clause-one_more c = λ plan depth entries told key verdict. turns-push plan depth [] told key verdict (nothing_posted entries)

pub returns-clause-no_depth : goal.returns-clause-no_depth
returns-clause-no_depth c = λ plan verdict entries. idle-turns plan entries [] (needs plan verdict)
