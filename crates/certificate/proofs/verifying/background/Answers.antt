use Rattle.std.proofs.Common.{◌≡◌, ◌∙◌, sym, ap, subst, [], ◌∷◌, List}
use Rattle.std.specs.Prelude.{Err, codes}
use Rattle.clauses.specs.Problem.{clauses_with}
use Rattle.clauses.specs.declared.literal.Lit.{Lit}
use Rattle.certificate.specs.declared.judgement.Shown.TheVariants as shown
use Rattle.certificate.specs.Judging.{Awaited, Derivation, Exactly, Nothing, background_parts, clauses_at}
use Rattle.certificate.specs.inside.Ahead.{judged_at}
use Rattle.certificate.specs.inside.Passing.{Passes}
use Rattle.certificate.proofs.PassingLaws.{end-fail, shows-fail, shows-from}
use Rattle.certificate.proofs.verifying.background.Goals as goal

pub returns-in_err-derivation : goal.returns-in_err-derivation
returns-in_err-derivation c = λ about same.
    let clauses : clauses_with about.problem c.in_ok-none.none ≡ clauses_at about [] = ap (clauses_with about.problem) c.in_ok-none.ensures in
    shows-fail (Unit {0}) about (Derivation (clauses_at about []) ∷ []) (Exactly (codes "end") ∷ Nothing shown.Background ∷ []) c.args.lines.now c.derivation.new.lines c.from_residual-in_err-derivation.result c.in_err-derivation.field-0.0
    c.from_residual-in_err-derivation.ensures.1
    (subst (λ (given : List (List Lit)). Passes {A = Unit {0}} about (Derivation given ∷ []) c.args.lines.now c.derivation.new.lines (Err c.in_err-derivation.field-0.0)) clauses (c.in_err-derivation.ensures.passes about (same ∙ sym c.requires)))

pub returns-in_err-ended : goal.returns-in_err-ended
returns-in_err-ended c = λ about same.
    let clauses : clauses_with about.problem c.in_ok-none.none ≡ clauses_at about [] = ap (clauses_with about.problem) c.in_ok-none.ensures in
    let end : List Awaited = Exactly (codes "end") ∷ Nothing shown.Background ∷ [] in
    let taken : judged_at about (background_parts about) c.args.lines.now ≡ judged_at about end c.derivation.new.lines =
    ap (λ (given : List (List Lit)). judged_at about (Derivation given ∷ end) c.args.lines.now) (sym clauses) ∙ c.in_ok-derivation.ensures.passes about (same ∙ sym c.requires) end in
    shows-from about (background_parts about) end c.args.lines.now c.derivation.new.lines c.from_residual-in_err-ended.result taken
    (end-fail (Unit {0}) about (codes "end") shown.Background c.derivation.new.lines c.from_residual-in_err-ended.result c.in_err-ended.field-0.0 c.from_residual-in_err-ended.ensures.1 c.in_err-ended.ensures)

pub returns : goal.returns
returns c = λ about same.
    let clauses : clauses_with about.problem c.in_ok-none.none ≡ clauses_at about [] = ap (clauses_with about.problem) c.in_ok-none.ensures in
    let end : List Awaited = Exactly (codes "end") ∷ Nothing shown.Background ∷ [] in
    let taken : judged_at about (background_parts about) c.args.lines.now ≡ judged_at about end c.derivation.new.lines =
    ap (λ (given : List (List Lit)). judged_at about (Derivation given ∷ end) c.args.lines.now) (sym clauses) ∙ c.in_ok-derivation.ensures.passes about (same ∙ sym c.requires) end in
    taken ∙ c.in_ok-ended.ensures about shown.Background
