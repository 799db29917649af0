use Rattle.std.proofs.Common.{map}
use Rattle.std.specs.String.{string_bytes}
use Rattle.command_line.specs.Request.{request}
use Rattle.command_line.proofs.ChosenLemmas.{said_if_found, unsaid_if_not_found}
use Rattle.command_line.proofs.command.read_words.Goals as goal

pub returns-clause-said : goal.returns-clause-said
returns-clause-said c = said_if_found request (map string_bytes c.args.words.now) c.command_of.result c.command_of.ensures.only

pub returns-clause-unsaid : goal.returns-clause-unsaid
returns-clause-unsaid c = unsaid_if_not_found request (map string_bytes c.args.words.now) c.command_of.result c.command_of.ensures.only
