use Rattle.std.proofs.Common.{ap, sym, ◌∙◌}
use Rattle.req_keys.specs.Wanting.{wanted_key}
use Rattle.diag_workers.proofs.course.next_turn.Goals as goal

pub ordered-requires-clause-asks : goal.ordered-requires-clause-asks
ordered-requires-clause-asks c = sym (ap wanted_key (sym c.in-Ask.is) ∙ c.want.ensures)
