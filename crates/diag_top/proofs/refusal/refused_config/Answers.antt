use Rattle.std.proofs.Common.{append_assoc}
use Rattle.diag_top.proofs.refusal.refused_config.Goals as goal

pub returns : goal.returns
returns c =
    rw (c.in_ok-text.ensures, c.as_bytes.ensures.value, c.as_str.ensures.value, c.in_ok-line.ensures.ok, c.config_reason-reason.ensures) (simp append_assoc)
