use Rattle.std.proofs.Common.{◌∙◌, refl, ap, [], ◌∷◌}
use Rattle.certificate.specs.declared.verifying.Said.{Said}
use Rattle.certificate.specs.Judging.{Kept, Kind, Subject, background_parts, consistent_parts}
use Rattle.certificate.specs.inside.Ahead.{judged_at}
use Rattle.certificate.specs.inside.Kinds.{parts_of}
use Rattle.certificate.proofs.PassingLaws.{shows-from}
use Rattle.certificate.proofs.verifying.shown.Goals as goal

pub returns-in-Consistent : goal.returns-in-Consistent
returns-in-Consistent c =
    let about : Subject = record { model = c.args.given.model.now; config = c.args.given.config.now; problem = c.args.given.problem.now } in
    shows-from about (Kind ∷ []) (consistent_parts about) c.args.lines.now c.kind.new.lines c.consistent.result
    (c.in_ok-said.ensures about ∙ ap (λ (s : Said). judged_at about (parts_of about s) c.kind.new.lines) c.in-Consistent.is) (c.consistent.ensures about.problem)

pub returns-in-Background : goal.returns-in-Background
returns-in-Background c =
    let about : Subject = record { model = c.args.given.model.now; config = c.args.given.config.now; problem = c.args.given.problem.now } in
    shows-from about (Kind ∷ []) (background_parts about) c.args.lines.now c.kind.new.lines c.background.result
    (c.in_ok-said.ensures about ∙ ap (λ (s : Said). judged_at about (parts_of about s) c.kind.new.lines) c.in-Background.is) (c.background.ensures about refl)

pub returns : goal.returns
returns c =
    let about : Subject = record { model = c.args.given.model.now; config = c.args.given.config.now; problem = c.args.given.problem.now } in
    shows-from about (Kind ∷ []) (Kept ∷ []) c.args.lines.now c.kind.new.lines c.explained.result
    (c.in_ok-said.ensures about ∙ ap (λ (s : Said). judged_at about (parts_of about s) c.kind.new.lines) c.in-Explained.is) c.explained.ensures
