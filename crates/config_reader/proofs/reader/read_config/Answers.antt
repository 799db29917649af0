use Rattle.std.proofs.Common.{◌∙◌, ◌<◌, sym, ap, length, Ok}
use Rattle.std.proofs.lemmas.Result.{err_from_is_err_and}
use Rattle.feature_tree.specs.FeatureModel.{FeatureModel}
use Rattle.config_reader.specs.Judgement.{on_ok}
use Rattle.config_reader.specs.Reading.{numbered_by_tier}
use Rattle.config_reader.specs.inside.Drafts.{standing_of}
use Rattle.config_reader.proofs.Drafts.{refused_on_ok, readings_short}
use Rattle.config_reader.proofs.Named.{readings_stated}
use Rattle.config_reader.proofs.Files.{fault_refused, configuration_of_lines}
use Rattle.config_reader.proofs.reader.read_config.Goals as goal

pub returns-in-Err-clause-refused : goal.returns-in-Err-clause-refused
returns-in-Err-clause-refused c = rw c.fault.ensures (fault_refused c.args.bytes.now c.args.model.now c.in-Err.error c.in-Err.ensures.refused)

pub returns-in_err-draft-clause-refused : goal.returns-in_err-draft-clause-refused
returns-in_err-draft-clause-refused c =
    let p = err_from_is_err_and c.from_residual-in_err-draft.result c.from_residual-in_err-draft.ensures.1 in
    let features = ap (λ (model : FeatureModel). model.features) c.model.view_is in
    let refused = rw (c.as_slice-2.ensures, c.in_ok-names.ensures, c.as_slice.ensures, features) at c.in_err-draft.ensures.refused in
    rw (p.1, p.2, configuration_of_lines c.args.bytes.now c.args.model.now c.in-Ok.lines c.in-Ok.ensures.lines)
    (refused_on_ok numbered_by_tier _ _ refused)

pub into_config-requires : goal.into_config-requires
into_config-requires c = readings_short c.in_ok-names.names c.args.bytes.now c.as_slice-2.result.now (standing_of c.in_ok-draft.draft) c.in_ok-draft.ensures.ok

pub returns-clause-config : goal.returns-clause-config
returns-clause-config c =
    let features = ap (λ (model : FeatureModel). model.features) c.model.view_is in
    let read = rw (c.as_slice-2.ensures, c.in_ok-names.ensures, c.as_slice.ensures, features) at c.in_ok-draft.ensures.ok in
    configuration_of_lines c.args.bytes.now c.args.model.now c.in-Ok.lines c.in-Ok.ensures.lines
    ∙ ap (on_ok numbered_by_tier) read
    ∙ sym (ap Ok c.in_ok-into_config.ensures)

pub returns-clause-stated : goal.returns-clause-stated
returns-clause-stated c =
    let features = ap (λ (model : FeatureModel). model.features) c.model.view_is in
    let some : 0 < length c.args.model.now.features = rw (← features) c.model.invariant.tree.some in
    readings_stated c.args.bytes.now c.args.model.now c.in_ok-into_config.field-0 some (returns-clause-config c)
