use Rattle.std.proofs.Common.{◌≡◌, List, Ok, ◌∙◌}
use Rattle.std.proofs.lemmas.Result.{IfOk-weaker}
use Rattle.uvl_lex.specs.declared.token.Line.{Line}
use Rattle.uvl_lex.specs.Laws.{AreLines}
use Rattle.uvl_lex.specs.Reading.{reading}
use Rattle.uvl_lex.proofs.LineLemmas.{readings_are_lines}
use Rattle.uvl_lex.proofs.TextLemmas.{reading_text, reading_wrong}
use Rattle.uvl_lex.proofs.lines.logical_lines.Goals as goal

pub returns-in-Ok-clause-lines : goal.returns-in-Ok-clause-lines
returns-in-Ok-clause-lines c =
    let e = reading_text c.args.bytes.now c.in-Ok.text.now c.new.result c.in-Ok.ensures.cases.0 c.in-Ok.ensures.cases.1 c.new.ensures.left c.new.ensures.place in
    rw e c.read_from.ensures.lines

pub returns-in-Ok-clause-refused : goal.returns-in-Ok-clause-refused
returns-in-Ok-clause-refused c =
    let e = reading_text c.args.bytes.now c.in-Ok.text.now c.new.result c.in-Ok.ensures.cases.0 c.in-Ok.ensures.cases.1 c.new.ensures.left c.new.ensures.place in
    rw e c.read_from.ensures.refused

pub returns-in-Ok-clause-well_formed : goal.returns-in-Ok-clause-well_formed
returns-in-Ok-clause-well_formed c =
    IfOk-weaker c.read_from.result (λ (lines : List Line). reading c.args.bytes.now ≡ Ok lines) (AreLines c.args.bytes.now)
    (readings_are_lines c.args.bytes.now) (returns-in-Ok-clause-lines c)

pub returns-in-Err-clause-refused : goal.returns-in-Err-clause-refused
returns-in-Err-clause-refused c =
    reading_wrong c.args.bytes.now c.valid_up_to.result _ c.in-Err.ensures.cases.0 (c.valid_up_to.ensures ∙ c.in-Err.ensures.valid_len) c.line_feeds.ensures
