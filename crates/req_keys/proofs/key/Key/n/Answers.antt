use Rattle.req_keys.proofs.KeyRowLaws.{shown-key}
use Rattle.req_keys.proofs.key.Key.n.Goals as goal

pub returns-clause-key : goal.returns-clause-key
returns-clause-key c = rw (← c.self.view_is) (shown-key c.self.inside.n c.self.inside.words.items c.self.invariant)
