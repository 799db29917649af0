use Rattle.std.proofs.Common.{◌∙◌}
use Rattle.std.specs.Option.{is_some}
use Rattle.certificate.proofs.SayingLaws.{clause-literals, none-left, some-from}
use Rattle.certificate.proofs.saying.read_clause.Goals as goal

pub returns-clause-read : goal.returns-clause-read
returns-clause-read c =
    clause-literals c.args.variables c.args.words (some-from (is_some c.args.words) c.is_none.result c.is_none.ensures c.if-is_none.false)
    ∙ c.words.invariant.read
    ∙ none-left c.args.variables c.words.clause c.words.rest c.in_default.not-Some
