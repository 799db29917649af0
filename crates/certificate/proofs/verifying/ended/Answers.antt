use Rattle.std.specs.Prelude.{codes}
use Rattle.certificate.proofs.PassingLaws.{ends-fail}
use Rattle.certificate.proofs.verifying.ended.Goals as goal

pub returns-in_err-exactly : goal.returns-in_err-exactly
returns-in_err-exactly c = ends-fail (Unit {0}) (Unit {0}) (codes "end") c.args.lines.now c.exactly.new.lines c.from_residual.result c.in_err-exactly.field-0.0 c.from_residual.ensures.1 c.in_err-exactly.ensures
