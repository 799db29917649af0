use Rattle.req_keys.specs.Wanting.{key_over}
use Rattle.std.proofs.Common.{◌≡◌, ◌∙◌, sym, ap, [], ◌∷◌, ◌++◌, List, ℕ, length}
use Rattle.std.specs.Prelude.{codes}
use Rattle.config_reader.specs.Configuration.{Configuration}
use Rattle.certificate.specs.declared.judgement.Judgement.TheVariants.{Yes}
use Rattle.certificate.specs.declared.judgement.Shown.TheVariants as shown
use Rattle.certificate.specs.Judging.{Awaited, ConflictBeside, Kept, Subject, count_of, end_parts, explained_parts}
use Rattle.certificate.specs.inside.Ahead.{judged_at}
use Rattle.certificate.specs.inside.Fronts.{front_parts}
use Rattle.certificate.proofs.PassingLaws.{conflict-at, end-fail, kept-at, list-fail, parts-apart, shows-fail, shows-from}
use Rattle.certificate.proofs.verifying.explained.Goals as goal

pub returns-in_err-kept : goal.returns-in_err-kept
returns-in_err-kept c =
    let about : Subject = record { model = c.args.given.model.now; config = c.args.given.config.now; problem = c.args.given.problem.now } in
    let n = c.len-n.result in
    let count : n ≡ count_of about = c.len-n.ensures ∙ ap (λ (k : Configuration). length k.requirements) c.config.view_is in
    list-fail about (codes "kept") n (Kept ∷ []) (λ kept. ConflictBeside kept ∷ []) c.args.lines.now c.listed.new.lines c.from_residual.result c.in_err-kept.field-0.0 c.from_residual.ensures.1 (kept-at about n count) c.in_err-kept.ensures

pub returns-in_err-conflict : goal.returns-in_err-conflict
returns-in_err-conflict c =
    let about : Subject = record { model = c.args.given.model.now; config = c.args.given.config.now; problem = c.args.given.problem.now } in
    let n = c.len-n.result in
    let count : n ≡ count_of about = c.len-n.ensures ∙ ap (λ (k : Configuration). length k.requirements) c.config.view_is in
    let kept = c.in_ok-kept.kept.members in
    let first : judged_at about (Kept ∷ []) c.args.lines.now ≡ judged_at about (ConflictBeside kept ∷ []) c.listed.new.lines =
    c.in_ok-kept.ensures.1 about (Kept ∷ []) (λ kept. ConflictBeside kept ∷ []) (kept-at about n count) in
    shows-from about (Kept ∷ []) (ConflictBeside kept ∷ []) c.args.lines.now c.listed.new.lines c.from_residual-in_err-conflict.result first
    (list-fail about (codes "conflict") n (ConflictBeside kept ∷ []) (λ conflict. explained_parts about kept conflict ++ []) c.listed.new.lines c.listed-2.new.lines c.from_residual-in_err-conflict.result c.in_err-conflict.field-0.0
    c.from_residual-in_err-conflict.ensures.1 (conflict-at about n kept count) c.in_err-conflict.ensures)

pub returns-in_err-lists_shown : goal.returns-in_err-lists_shown
returns-in_err-lists_shown c =
    let about : Subject = record { model = c.args.given.model.now; config = c.args.given.config.now; problem = c.args.given.problem.now } in
    let n = c.len-n.result in
    let count : n ≡ count_of about = c.len-n.ensures ∙ ap (λ (k : Configuration). length k.requirements) c.config.view_is in
    let kept = c.in_ok-kept.kept.members in
    let first : judged_at about (Kept ∷ []) c.args.lines.now ≡ judged_at about (ConflictBeside kept ∷ []) c.listed.new.lines =
    c.in_ok-kept.ensures.1 about (Kept ∷ []) (λ kept. ConflictBeside kept ∷ []) (kept-at about n count) in
    let conflict = c.in_ok-conflict.conflict.members in
    let front = front_parts about kept conflict in
    let end = end_parts about kept conflict in
    let both : judged_at about (Kept ∷ []) c.args.lines.now ≡ judged_at about (front ++ end) c.listed-2.new.lines =
    first
    ∙ c.in_ok-conflict.ensures.1 about (ConflictBeside kept ∷ []) (λ conflict. explained_parts about kept conflict ++ []) (conflict-at about n kept count)
    ∙ ap (λ (parts : List Awaited). judged_at about parts c.listed-2.new.lines) (parts-apart about kept conflict) in
    shows-from about (Kept ∷ []) (front ++ end) c.args.lines.now c.listed-2.new.lines c.from_residual-in_err-lists_shown.result both
    (shows-fail (Unit {0}) about front end c.listed-2.new.lines c.lists_shown.new.lines c.from_residual-in_err-lists_shown.result c.in_err-lists_shown.field-0.0 c.from_residual-in_err-lists_shown.ensures.1 c.in_err-lists_shown.ensures)

pub returns-in_err-ended : goal.returns-in_err-ended
returns-in_err-ended c =
    let about : Subject = record { model = c.args.given.model.now; config = c.args.given.config.now; problem = c.args.given.problem.now } in
    let n = c.len-n.result in
    let count : n ≡ count_of about = c.len-n.ensures ∙ ap (λ (k : Configuration). length k.requirements) c.config.view_is in
    let kept = c.in_ok-kept.kept.members in
    let first : judged_at about (Kept ∷ []) c.args.lines.now ≡ judged_at about (ConflictBeside kept ∷ []) c.listed.new.lines =
    c.in_ok-kept.ensures.1 about (Kept ∷ []) (λ kept. ConflictBeside kept ∷ []) (kept-at about n count) in
    let conflict = c.in_ok-conflict.conflict.members in
    let front = front_parts about kept conflict in
    let end = end_parts about kept conflict in
    let both : judged_at about (Kept ∷ []) c.args.lines.now ≡ judged_at about (front ++ end) c.listed-2.new.lines =
    first
    ∙ c.in_ok-conflict.ensures.1 about (ConflictBeside kept ∷ []) (λ conflict. explained_parts about kept conflict ++ []) (conflict-at about n kept count)
    ∙ ap (λ (parts : List Awaited). judged_at about parts c.listed-2.new.lines) (parts-apart about kept conflict) in
    shows-from about (Kept ∷ []) end c.args.lines.now c.lists_shown.new.lines c.from_residual-in_err-ended.result (both ∙ c.in_ok-lists_shown.ensures end)
    (end-fail (Unit {0}) about (codes "end") (shown.Explained (key_over (count_of about) kept) (key_over (count_of about) conflict)) c.lists_shown.new.lines c.from_residual-in_err-ended.result c.in_err-ended.field-0.0
    c.from_residual-in_err-ended.ensures.1 c.in_err-ended.ensures)

pub returns : goal.returns
returns c =
    let about : Subject = record { model = c.args.given.model.now; config = c.args.given.config.now; problem = c.args.given.problem.now } in
    let n = c.len-n.result in
    let count : n ≡ count_of about = c.len-n.ensures ∙ ap (λ (k : Configuration). length k.requirements) c.config.view_is in
    let kept = c.in_ok-kept.kept.members in
    let first : judged_at about (Kept ∷ []) c.args.lines.now ≡ judged_at about (ConflictBeside kept ∷ []) c.listed.new.lines =
    c.in_ok-kept.ensures.1 about (Kept ∷ []) (λ kept. ConflictBeside kept ∷ []) (kept-at about n count) in
    let conflict = c.in_ok-conflict.conflict.members in
    let front = front_parts about kept conflict in
    let end = end_parts about kept conflict in
    let both : judged_at about (Kept ∷ []) c.args.lines.now ≡ judged_at about (front ++ end) c.listed-2.new.lines =
    first
    ∙ c.in_ok-conflict.ensures.1 about (ConflictBeside kept ∷ []) (λ conflict. explained_parts about kept conflict ++ []) (conflict-at about n kept count)
    ∙ ap (λ (parts : List Awaited). judged_at about parts c.listed-2.new.lines) (parts-apart about kept conflict) in
    both ∙ c.in_ok-lists_shown.ensures end
    ∙ c.in_ok-ended.ensures about (shown.Explained (key_over (count_of about) kept) (key_over (count_of about) conflict))
    ∙ ap (λ (m : ℕ). Yes (shown.Explained (key_over m kept) (key_over (count_of about) conflict))) (sym (c.in_ok-kept.ensures.0 ∙ count))
    ∙ ap (λ (m : ℕ). Yes (shown.Explained (key_over c.in_ok-kept.kept.n kept) (key_over m conflict))) (sym (c.in_ok-conflict.ensures.0 ∙ count))
