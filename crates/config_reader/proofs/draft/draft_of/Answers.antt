use Rattle.std.proofs.Common.{◌∙◌, drop, ◌+◌, arith}
use Rattle.std.proofs.lemmas.List.{at_drop_more, at_drop_all}
use Rattle.std.proofs.lemmas.Result.{err_from_is_err_and}
use Rattle.config_reader.specs.Judgement.{after_lines}
use Rattle.config_reader.specs.inside.Drafts.{standing_of}
use Rattle.config_reader.proofs.Drafts.{lines_next, lines_refused, lines_end}
use Rattle.config_reader.proofs.draft.draft_of.Goals as goal

pub loop-line-preserved : goal.loop-line-preserved
loop-line-preserved c =
    let rest = after_lines c.args.version c.args.names.now c.args.bytes.now (standing_of c.loop-line.draft) in
    let next = rw (← c.line-item.is) at (at_drop_more rest c.args.lines.now c.loop-line.line-index c.line-item.result c.loop-line-test.true) in
    c.loop-line.invariant ∙ next
    ∙ lines_next c.args.version c.args.names.now c.args.bytes.now (standing_of c.loop-line.draft) (standing_of c.in_ok-draft.draft) c.line-item.result (drop (c.loop-line.line-index + 1) c.args.lines.now) c.in_ok-draft.ensures.ok

pub returns-in_err-draft-clause-refused : goal.returns-in_err-draft-clause-refused
returns-in_err-draft-clause-refused c =
    let p = err_from_is_err_and c.from_residual.result c.from_residual.ensures.1 in
    let rest = after_lines c.args.version c.args.names.now c.args.bytes.now (standing_of c.loop-line.draft) in
    let next = rw (← c.line-item.is) at (at_drop_more rest c.args.lines.now c.loop-line.line-index c.line-item.result c.loop-line-test.true) in
    rw (p.1, p.2, c.loop-line.invariant ∙ next)
    (lines_refused c.args.version c.args.names.now c.args.bytes.now (standing_of c.loop-line.draft) c.line-item.result (drop (c.loop-line.line-index + 1) c.args.lines.now) _ c.in_err-draft.ensures.refused)

pub returns-clause-ok : goal.returns-clause-ok
returns-clause-ok c =
    let rest = after_lines c.args.version c.args.names.now c.args.bytes.now (standing_of c.loop-line.draft) in
    c.loop-line.invariant ∙ at_drop_all rest c.args.lines.now c.loop-line.line-index (omega arith)
    ∙ lines_end c.args.version c.args.names.now c.args.bytes.now (standing_of c.loop-line.draft)
