use Rattle.std.proofs.Common.{sym, subst, [], ◌∷◌, ◌++◌, ℕ}
use Rattle.std.specs.Prelude.{codes}
use Rattle.std.specs.Fmt.{decimal}
use Rattle.clauses.specs.Problem.{clauses_with}
use Rattle.req_keys.specs.Key.{PositionSet}
use Rattle.certificate.specs.Judging.{Derivation, Exactly, clauses_at, count_of}
use Rattle.certificate.specs.Sets.{refuted_with}
use Rattle.certificate.specs.inside.Passing.{Passes}
use Rattle.certificate.proofs.PassingLaws.{passes-then, passes-fail}
use Rattle.certificate.proofs.explained.refuted.Goals as goal

pub returns-in_err-numbered-clause-passes : goal.returns-in_err-numbered-clause-passes
returns-in_err-numbered-clause-passes c = λ about same count.
    passes-fail (Unit {0}) about (Exactly (codes "refute " ++ decimal c.args.position) ∷ [])
    (Derivation (clauses_at about (refuted_with (count_of about) c.args.kept.now.members c.args.position)) ∷ [])
    c.args.lines.now c.numbered.new.lines c.numbered.new.lines c.from_residual.result c.in_err-numbered.field-0.0 c.from_residual.ensures.1 (c.in_err-numbered.ensures about)

pub returns-clause-passes : goal.returns-clause-passes
returns-clause-passes c = λ about same count.
    subst (λ (n : ℕ). Passes about (Exactly (codes "refute " ++ decimal c.args.position) ∷ Derivation (clauses_at about (refuted_with n c.args.kept.now.members c.args.position)) ∷ []) c.args.lines.now c.derivation.new.lines c.derivation.result)
    (sym count)
    (passes-then about (Exactly (codes "refute " ++ decimal c.args.position) ∷ []) (Derivation (clauses_at about (refuted_with c.args.kept.now.n c.args.kept.now.members c.args.position)) ∷ [])
    c.args.lines.now c.numbered.new.lines c.derivation.new.lines c.derivation.result (c.in_ok-numbered.ensures about)
    (subst (λ (key : PositionSet). Passes about (Derivation (clauses_with about.problem key) ∷ []) c.numbered.new.lines c.derivation.new.lines c.derivation.result) c.in_ok-key.ensures
    (c.derivation.ensures.passes about same)))
