use Rattle.std.proofs.Common.{◌+◌, drop, ◌∙◌, arith}
use Rattle.std.proofs.lemmas.List.{at_drop_more, at_drop_all}
use Rattle.std.proofs.lemmas.List.Elements.{All-get_or}
use Rattle.std.proofs.lemmas.Result.{err_from_is_err_and}
use Rattle.uvl_lex.specs.Laws.{IsLine}
use Rattle.uvl_reader.specs.inside.Drafts.{standing_of}
use Rattle.uvl_reader.specs.inside.Standing.{after_lines}
use Rattle.uvl_reader.proofs.KeptGoodLaws.{good_line}
use Rattle.uvl_reader.proofs.ReadLaws.{lines_next, lines_refused, lines_end}
use Rattle.uvl_reader.proofs.draft.draft_of.Goals as goal

pub returns-in_err-read-clause-refused : goal.returns-in_err-read-clause-refused
returns-in_err-read-clause-refused c =
    let p = err_from_is_err_and c.from_residual.result c.from_residual.ensures.1 in
    let next = rw (← c.line-item.is) at (at_drop_more (after_lines c.args.bytes.now (standing_of c.loop-line.draft)) c.args.lines.now c.loop-line.line-index c.line-item.result c.loop-line-test.true) in
    rw (p.1, p.2, c.loop-line.invariant.rest ∙ next)
    (lines_refused c.args.bytes.now (standing_of c.loop-line.draft) c.line-item.result (drop (c.loop-line.line-index + 1) c.args.lines.now) _ c.in_err-read.ensures.refused)

pub loop-line-preserved : goal.loop-line-preserved
loop-line-preserved c =
    let next = rw (← c.line-item.is) at (at_drop_more (after_lines c.args.bytes.now (standing_of c.loop-line.draft)) c.args.lines.now c.loop-line.line-index c.line-item.result c.loop-line-test.true) in
    let line = rw (← c.line-item.is) at (All-get_or (IsLine c.args.bytes.now) c.args.lines.now c.loop-line.line-index c.line-item.result c.loop-line-test.true c.requires.lines) in
    record {
      rest = c.loop-line.invariant.rest ∙ next ∙ lines_next c.args.bytes.now (standing_of c.loop-line.draft) (standing_of c.read.new.self) c.line-item.result (drop (c.loop-line.line-index + 1) c.args.lines.now) c.in_ok-read.ensures.ok;
      good = good_line c.args.bytes.now (standing_of c.loop-line.draft) (standing_of c.read.new.self) c.line-item.result line.spans c.loop-line.invariant.good c.in_ok-read.ensures.ok;
    }

pub returns-clause-ok : goal.returns-clause-ok
returns-clause-ok c =
    c.loop-line.invariant.rest ∙ at_drop_all (after_lines c.args.bytes.now (standing_of c.loop-line.draft)) c.args.lines.now c.loop-line.line-index (omega arith)
    ∙ lines_end c.args.bytes.now (standing_of c.loop-line.draft)
