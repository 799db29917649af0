use Rattle.std.proofs.Common.{◌∙◌, sym, ap, List, ℕ}
use Rattle.std.specs.Option.{is_some}
use Rattle.std.specs.Str.{bytes_eq}
use Rattle.certificate.proofs.SayingLaws.{clash-malformed, some-from}
use Rattle.certificate.proofs.saying.read_saying.Goals as goal

pub returns-else-whole-clause-said : goal.returns-else-whole-clause-said
returns-else-whole-clause-said c =
    clash-malformed c.args.variables c.args.line.now c.cut.result.0.now c.cut.result.1 c.cut.ensures.pieces
    (ap (λ (word : List ℕ). bytes_eq c.cut.result.0.now word) (sym c.as_slice.ensures) ∙ sym c.eq.ensures ∙ c.if-eq.false)
    (ap (λ (word : List ℕ). bytes_eq c.cut.result.0.now word) (sym c.as_slice-2.ensures) ∙ sym c.eq-2.ensures ∙ c.if-eq-2.true)
    (some-from (is_some c.cut.result.1) c.is_none-whole.result c.is_none-whole.ensures c.if-whole.false)
