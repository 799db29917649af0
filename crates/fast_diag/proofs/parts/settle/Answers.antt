use Rattle.req_keys.proofs.Rises.{RiseWithin-higher}
use Rattle.fast_diag.proofs.parts.settle.Goals as goal

pub divide-requires-clause-below : goal.divide-requires-clause-below
divide-requires-clause-below c = RiseWithin-higher 0 c.args.at c.in-Some.turn.before c.args.kept.members c.in-Some.ensures.3 c.requires.place.below

pub ask-requires-clause-below : goal.ask-requires-clause-below
ask-requires-clause-below c = RiseWithin-higher 0 c.args.at c.in-Some.turn.before c.args.kept.members c.in-Some.ensures.3 c.requires.place.below
