use Rattle.std.proofs.Common.{◌≡◌, ◌∙◌, sym, ap, subst, [], ◌∷◌, List, ℕ, length}
use Rattle.std.specs.Prelude.{Err, codes}
use Rattle.std.specs.List.{range_with_len}
use Rattle.config_reader.specs.Configuration.{Configuration}
use Rattle.req_keys.specs.Key.{PositionSet}
use Rattle.certificate.specs.declared.judgement.Shown.TheVariants as shown
use Rattle.certificate.specs.Judging.{Awaited, Exactly, Nothing, Product, Subject, consistent_parts, count_of}
use Rattle.certificate.specs.inside.Ahead.{judged_at}
use Rattle.certificate.specs.inside.Passing.{Passes}
use Rattle.certificate.proofs.PassingLaws.{end-fail, shows-fail, shows-from}
use Rattle.certificate.proofs.verifying.consistent.Goals as goal

pub returns-in_err-product : goal.returns-in_err-product
returns-in_err-product c = λ problem.
    let about : Subject = record { model = c.args.model.now; config = c.args.config.now; problem = problem } in
    let members : c.in_ok-all.all.members ≡ range_with_len 1 (count_of about) =
    ap (λ (k : PositionSet). k.members) c.in_ok-all.ensures ∙ ap (range_with_len 1) (c.len.ensures ∙ ap (λ (k : Configuration). length k.requirements) c.config.view_is) in
    shows-fail (Unit {0}) about (Product (range_with_len 1 (count_of about)) ∷ []) (Exactly (codes "end") ∷ Nothing shown.Consistent ∷ []) c.args.lines.now c.product.new.lines c.from_residual-in_err-product.result c.in_err-product.field-0.0
    c.from_residual-in_err-product.ensures.1
    (subst (λ (ms : List ℕ). Passes {A = Unit {0}} about (Product ms ∷ []) c.args.lines.now c.product.new.lines (Err c.in_err-product.field-0.0)) members (c.in_err-product.ensures.passes problem))

pub returns-in_err-ended : goal.returns-in_err-ended
returns-in_err-ended c = λ problem.
    let about : Subject = record { model = c.args.model.now; config = c.args.config.now; problem = problem } in
    let members : c.in_ok-all.all.members ≡ range_with_len 1 (count_of about) =
    ap (λ (k : PositionSet). k.members) c.in_ok-all.ensures ∙ ap (range_with_len 1) (c.len.ensures ∙ ap (λ (k : Configuration). length k.requirements) c.config.view_is) in
    let end : List Awaited = Exactly (codes "end") ∷ Nothing shown.Consistent ∷ [] in
    let taken : judged_at about (consistent_parts about) c.args.lines.now ≡ judged_at about end c.product.new.lines =
    ap (λ (ms : List ℕ). judged_at about (Product ms ∷ end) c.args.lines.now) (sym members) ∙ c.in_ok-product.ensures.passes problem end in
    shows-from about (consistent_parts about) end c.args.lines.now c.product.new.lines c.from_residual-in_err-ended.result taken
    (end-fail (Unit {0}) about (codes "end") shown.Consistent c.product.new.lines c.from_residual-in_err-ended.result c.in_err-ended.field-0.0 c.from_residual-in_err-ended.ensures.1 c.in_err-ended.ensures)

pub returns : goal.returns
returns c = λ problem.
    let about : Subject = record { model = c.args.model.now; config = c.args.config.now; problem = problem } in
    let members : c.in_ok-all.all.members ≡ range_with_len 1 (count_of about) =
    ap (λ (k : PositionSet). k.members) c.in_ok-all.ensures ∙ ap (range_with_len 1) (c.len.ensures ∙ ap (λ (k : Configuration). length k.requirements) c.config.view_is) in
    let end : List Awaited = Exactly (codes "end") ∷ Nothing shown.Consistent ∷ [] in
    let taken : judged_at about (consistent_parts about) c.args.lines.now ≡ judged_at about end c.product.new.lines =
    ap (λ (ms : List ℕ). judged_at about (Product ms ∷ end) c.args.lines.now) (sym members) ∙ c.in_ok-product.ensures.passes problem end in
    taken ∙ c.in_ok-ended.ensures about shown.Consistent
