use Rattle.std.proofs.Common.{subst, [], ◌∷◌, ◌++◌, ℕ}
use Rattle.std.specs.Prelude.{codes}
use Rattle.std.specs.Fmt.{decimal}
use Rattle.req_keys.specs.Key.{PositionSet}
use Rattle.certificate.specs.Judging.{Exactly, Product, Subject, count_of}
use Rattle.certificate.specs.Sets.{met_without}
use Rattle.certificate.specs.inside.Passing.{Passes}
use Rattle.certificate.proofs.PassingLaws.{passes-then, passes-fail}
use Rattle.certificate.proofs.explained.needed.Goals as goal

pub returns-in_err-numbered-clause-passes : goal.returns-in_err-numbered-clause-passes
returns-in_err-numbered-clause-passes c = λ problem.
    let about : Subject = record { model = c.args.model.now; config = c.args.config.now; problem = problem } in
    passes-fail (Unit {0}) about (Exactly (codes "need " ++ decimal c.args.member) ∷ []) (Product (met_without (count_of about) c.args.conflict.now.members c.args.member) ∷ [])
    c.args.lines.now c.numbered.new.lines c.numbered.new.lines c.from_residual.result c.in_err-numbered.field-0.0 c.from_residual.ensures.1 (c.in_err-numbered.ensures about)

pub returns-clause-passes : goal.returns-clause-passes
returns-clause-passes c = λ problem.
    let about : Subject = record { model = c.args.model.now; config = c.args.config.now; problem = problem } in
    subst (λ (n : ℕ). Passes about (Exactly (codes "need " ++ decimal c.args.member) ∷ Product (met_without n c.args.conflict.now.members c.args.member) ∷ []) c.args.lines.now c.product.new.lines c.product.result)
    c.requires.key
    (passes-then about (Exactly (codes "need " ++ decimal c.args.member) ∷ []) (Product (met_without c.args.conflict.now.n c.args.conflict.now.members c.args.member) ∷ [])
    c.args.lines.now c.numbered.new.lines c.product.new.lines c.product.result (c.in_ok-numbered.ensures about)
    (subst (λ (key : PositionSet). Passes about (Product key.members ∷ []) c.numbered.new.lines c.product.new.lines c.product.result) c.in_ok-key.ensures
    (c.product.ensures.passes problem)))
