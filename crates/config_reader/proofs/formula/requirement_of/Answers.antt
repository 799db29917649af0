use Rattle.std.proofs.Common.{Ok}
use Rattle.config_reader.proofs.Requirements.{requirement_of_answer, requirement_refused}
use Rattle.config_reader.proofs.formula.requirement_of.Goals as goal

pub returns-in-Err-clause-refused : goal.returns-in-Err-clause-refused
returns-in-Err-clause-refused c =
    rw c.refusal.ensures (requirement_refused c.args.names.now c.args.bytes.now c.args.line c.args.tokens.now c.in-Err.reason c.in-Err.ensures.refused)

pub returns-in-Ok-clause-ok : goal.returns-in-Ok-clause-ok
returns-in-Ok-clause-ok c =
    rw (requirement_of_answer c.args.names.now c.args.bytes.now c.args.line c.args.tokens.now (Ok c.in-Ok.formula) c.in-Ok.ensures.answer) c.with_numbers.ensures.ok

pub returns-in-Ok-clause-refused : goal.returns-in-Ok-clause-refused
returns-in-Ok-clause-refused c =
    rw (requirement_of_answer c.args.names.now c.args.bytes.now c.args.line c.args.tokens.now (Ok c.in-Ok.formula) c.in-Ok.ensures.answer) c.with_numbers.ensures.refused
