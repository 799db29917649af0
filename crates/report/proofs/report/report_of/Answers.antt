use Rattle.report.proofs.report.report_of.Goals as goal

pub returns : goal.returns
returns c =
    rw (
      c.in_ok-extend_from_slice.ensures.ok,
      c.in_ok-push_checks_line.ensures,
      c.in_ok-push_findings.ensures,
      c.in_ok-push_must_findings.ensures,
      c.in_ok-push_result_line.ensures,
      c.in_ok-push_musts_line.ensures,
      c.in_ok-push_requirements_line.ensures,
      c.in_ok-push_model_line.ensures,
      c.in_ok-text.ensures,
      c.as_slice.ensures,
      c.as_slice-2.ensures,
      c.as_slice-3.ensures,
      c.as_slice-4.ensures,
      ← c.config.view_is,
    )
