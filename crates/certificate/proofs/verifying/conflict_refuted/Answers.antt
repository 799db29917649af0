use Rattle.std.proofs.Common.{◌≡◌, sym, subst, [], ◌∷◌, List}
use Rattle.std.specs.Prelude.{Err, codes}
use Rattle.std.specs.List.{flat_map}
use Rattle.clauses.specs.Problem.{clauses_with}
use Rattle.req_keys.specs.Key.{PositionSet}
use Rattle.certificate.specs.Judging.{Awaited, Derivation, Exactly, Subject, clauses_at, need_parts}
use Rattle.certificate.specs.inside.Ahead.{judged_at}
use Rattle.certificate.specs.inside.Passing.{Passes}
use Rattle.certificate.proofs.PassingLaws.{passes-fail, passes-then}
use Rattle.certificate.proofs.verifying.conflict_refuted.Goals as goal

pub returns-in_err-exactly : goal.returns-in_err-exactly
returns-in_err-exactly c =
    let about : Subject = record { model = c.args.given.model.now; config = c.args.given.config.now; problem = c.args.given.problem.now } in
    let members = c.args.conflict.now.members in
    passes-fail (Unit {0}) about (Exactly (codes "refute conflict") ∷ []) (Derivation (clauses_at about members) ∷ flat_map (need_parts about members) members) c.args.lines.now c.exactly.new.lines c.exactly.new.lines
    c.from_residual.result c.in_err-exactly.field-0.0 c.from_residual.ensures.1 (c.in_err-exactly.ensures about)

pub returns-in_err-derivation : goal.returns-in_err-derivation
returns-in_err-derivation c =
    let about : Subject = record { model = c.args.given.model.now; config = c.args.given.config.now; problem = c.args.given.problem.now } in
    let members = c.args.conflict.now.members in
    passes-fail (Unit {0}) about (Exactly (codes "refute conflict") ∷ Derivation (clauses_at about members) ∷ []) (flat_map (need_parts about members) members) c.args.lines.now c.derivation.new.lines c.derivation.new.lines
    c.from_residual-in_err-derivation.result c.in_err-derivation.field-0.0 c.from_residual-in_err-derivation.ensures.1
    (passes-then {A = Unit {0}} about (Exactly (codes "refute conflict") ∷ []) (Derivation (clauses_at about members) ∷ []) c.args.lines.now c.exactly.new.lines c.derivation.new.lines (Err c.in_err-derivation.field-0.0)
    (c.in_ok-exactly.ensures about)
    (subst (λ (key : PositionSet). Passes {A = Unit {0}} about (Derivation (clauses_with about.problem key) ∷ []) c.exactly.new.lines c.derivation.new.lines (Err c.in_err-derivation.field-0.0)) c.in_ok-key.ensures
    (c.in_err-derivation.ensures.passes about (sym c.requires.checker))))

pub returns : goal.returns
returns c =
    let about : Subject = record { model = c.args.given.model.now; config = c.args.given.config.now; problem = c.args.given.problem.now } in
    let members = c.args.conflict.now.members in
    let needs : List Awaited = flat_map (need_parts about members) members in
    passes-then about (Exactly (codes "refute conflict") ∷ []) (Derivation (clauses_at about members) ∷ needs) c.args.lines.now c.exactly.new.lines c.all_needed.new.lines c.all_needed.result (c.in_ok-exactly.ensures about)
    (passes-then about (Derivation (clauses_at about members) ∷ []) needs c.exactly.new.lines c.derivation.new.lines c.all_needed.new.lines c.all_needed.result
    (subst (λ (key : PositionSet). (rest : List Awaited) → judged_at about (Derivation (clauses_with about.problem key) ∷ rest) c.exactly.new.lines ≡ judged_at about rest c.derivation.new.lines) c.in_ok-key.ensures
    (c.in_ok-derivation.ensures.passes about (sym c.requires.checker)))
    (c.all_needed.ensures.passes about.problem))
