use Rattle.std.proofs.Common.{◌≡◌, sym, subst, [], ◌∷◌, ◌++◌, List, ℕ}
use Rattle.std.specs.Prelude.{Err}
use Rattle.std.specs.List.{flat_map}
use Rattle.certificate.specs.Judging.{Awaited, Product, Subject, conflict_parts, count_of, refuted_parts}
use Rattle.certificate.specs.Sets.{given_up}
use Rattle.certificate.specs.inside.Ahead.{judged_at}
use Rattle.certificate.specs.inside.Passing.{Passes}
use Rattle.certificate.proofs.PassingLaws.{passes-fail, passes-then}
use Rattle.certificate.proofs.verifying.lists_shown.Goals as goal

pub returns-in_err-product : goal.returns-in_err-product
returns-in_err-product c =
    let about : Subject = record { model = c.args.given.model.now; config = c.args.given.config.now; problem = c.args.given.problem.now } in
    let kept = c.args.kept.now.members in
    let conflict = c.args.conflict.now.members in
    let refutes : List Awaited = flat_map (refuted_parts about kept) (given_up (count_of about) kept) in
    passes-fail (Unit {0}) about (Product kept ∷ []) (refutes ++ conflict_parts about conflict) c.args.lines.now c.product.new.lines c.product.new.lines c.from_residual.result c.in_err-product.field-0.0
    c.from_residual.ensures.1 (c.in_err-product.ensures.passes about.problem)

pub returns-in_err-all_refuted : goal.returns-in_err-all_refuted
returns-in_err-all_refuted c =
    let about : Subject = record { model = c.args.given.model.now; config = c.args.given.config.now; problem = c.args.given.problem.now } in
    let kept = c.args.kept.now.members in
    let conflict = c.args.conflict.now.members in
    let refutes : List Awaited = flat_map (refuted_parts about kept) (given_up (count_of about) kept) in
    passes-fail (Unit {0}) about (Product kept ∷ refutes) (conflict_parts about conflict) c.args.lines.now c.all_refuted.new.lines c.all_refuted.new.lines c.from_residual-in_err-all_refuted.result c.in_err-all_refuted.field-0.0
    c.from_residual-in_err-all_refuted.ensures.1
    (passes-then {A = Unit {0}} about (Product kept ∷ []) refutes c.args.lines.now c.product.new.lines c.all_refuted.new.lines (Err c.in_err-all_refuted.field-0.0) (c.in_ok-product.ensures.passes about.problem)
    (subst (λ (n : ℕ). Passes {A = Unit {0}} about (flat_map (refuted_parts about kept) (given_up n kept)) c.product.new.lines c.all_refuted.new.lines (Err c.in_err-all_refuted.field-0.0)) c.requires.kept
    (c.in_err-all_refuted.ensures.passes about (sym c.requires.checker) (sym c.requires.kept))))

pub returns : goal.returns
returns c =
    let about : Subject = record { model = c.args.given.model.now; config = c.args.given.config.now; problem = c.args.given.problem.now } in
    let kept = c.args.kept.now.members in
    let conflict = c.args.conflict.now.members in
    let refutes : List Awaited = flat_map (refuted_parts about kept) (given_up (count_of about) kept) in
    passes-then about (Product kept ∷ []) (refutes ++ conflict_parts about conflict) c.args.lines.now c.product.new.lines c.conflict_refuted.new.lines c.conflict_refuted.result (c.in_ok-product.ensures.passes about.problem)
    (passes-then about refutes (conflict_parts about conflict) c.product.new.lines c.all_refuted.new.lines c.conflict_refuted.new.lines c.conflict_refuted.result
    (subst (λ (n : ℕ). (rest : List Awaited) → judged_at about (flat_map (refuted_parts about kept) (given_up n kept) ++ rest) c.product.new.lines ≡ judged_at about rest c.all_refuted.new.lines) c.requires.kept
    (c.in_ok-all_refuted.ensures.passes about (sym c.requires.checker) (sym c.requires.kept)))
    c.conflict_refuted.ensures)
