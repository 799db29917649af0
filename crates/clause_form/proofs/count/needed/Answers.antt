use Rattle.std.proofs.Common.{◌∙◌, ap, map, length}
use Rattle.config_reader.specs.Consistent.{formulas_of}
use Rattle.clause_form.specs.ClauseForm.{group_parts}
use Rattle.clause_form.specs.Gates.{gates, gates_of}
use Rattle.clause_form.specs.Parts.{capped, size_of}
use Rattle.clause_form.proofs.ClauseFormLaws.{variables_of-sections}
use Rattle.clause_form.proofs.Sizes.{capped-five}
use Rattle.clause_form.proofs.count.needed.Goals as goal

pub returns : goal.returns
returns c =
    let model = c.model.inside in
    let config = c.config.inside in
    rw (
      c.saturating_add-4.ensures,
      c.in_requirements-2.ensures,
      c.as_slice-3.ensures,
      c.saturating_add-3.ensures,
      c.in_requirements.ensures,
      c.as_slice-2.ensures,
      c.saturating_add-2.ensures,
      c.in_formulas.ensures,
      c.as_slice.ensures,
      c.saturating_add.ensures,
      c.in_features.ensures,
      c.as_slice-features.ensures,
      ← c.model.view_is,
      ← c.config.view_is,
    )
    (capped-five (length model.features) (size_of (group_parts model.features)) (size_of (map gates (map gates_of model.constraints))) (size_of (map gates (map gates_of (formulas_of config.musts))))
    (size_of (map gates (map gates_of (formulas_of config.requirements))))
    ∙ ap capped (variables_of-sections (record { features = model.features; constraints = model.constraints }) (record { requirements = config.requirements; musts = config.musts })))
