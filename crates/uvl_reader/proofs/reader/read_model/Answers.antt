use Rattle.std.proofs.Common.{ap, ◌∙◌}
use Rattle.std.proofs.lemmas.Result.{err_from_is_err_and}
use Rattle.uvl_reader.specs.inside.Standing.{start, and_then, after_lines, model_at}
use Rattle.uvl_reader.specs.ModelReading.{features_number}
use Rattle.uvl_reader.proofs.FinalLaws.{model_of_read, model_of_refused}
use Rattle.uvl_reader.proofs.ReadLaws.{refused_then}
use Rattle.uvl_reader.proofs.reader.read_model.Goals as goal

pub returns-in-Err-clause-refused : goal.returns-in-Err-clause-refused
returns-in-Err-clause-refused c = rw c.text_refused.ensures (model_of_refused c.args.bytes.now c.in-Err.error c.in-Err.ensures.refused)

pub returns-in_err-draft-clause-refused : goal.returns-in_err-draft-clause-refused
returns-in_err-draft-clause-refused c =
    let p = err_from_is_err_and c.from_residual.result c.from_residual.ensures.1 in
    let refused = rw c.as_slice.ensures at c.in_err-draft.ensures.refused in
    rw (p.1, p.2, model_of_read c.args.bytes.now c.in-Ok.lines c.in-Ok.ensures.lines)
    (refused_then (model_at c.args.bytes.now (features_number c.in-Ok.lines)) _ (after_lines c.args.bytes.now start c.in-Ok.lines) refused)

pub returns-clause-model : goal.returns-clause-model
returns-clause-model c =
    let ok = rw c.as_slice.ensures at c.in_ok-draft.ensures.ok in
    let read = model_of_read c.args.bytes.now c.in-Ok.lines c.in-Ok.ensures.lines ∙ ap (and_then (model_at c.args.bytes.now (features_number c.in-Ok.lines))) ok in
    rw read (rw c.as_slice-2.ensures at c.model_of.ensures.ok)

pub returns-clause-refused : goal.returns-clause-refused
returns-clause-refused c =
    let ok = rw c.as_slice.ensures at c.in_ok-draft.ensures.ok in
    let read = model_of_read c.args.bytes.now c.in-Ok.lines c.in-Ok.ensures.lines ∙ ap (and_then (model_at c.args.bytes.now (features_number c.in-Ok.lines))) ok in
    rw read (rw c.as_slice-2.ensures at c.model_of.ensures.refused)
