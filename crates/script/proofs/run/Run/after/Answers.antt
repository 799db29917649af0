use Rattle.std.proofs.Common.{ap, ◌∙◌}
use Rattle.script.specs.Job.{Told, verdict_in}
use Rattle.script.specs.Running.{want_after}
use Rattle.script.proofs.SequentialRuns.{want-key}
use Rattle.script.proofs.StageMore.{asks-some}
use Rattle.script.proofs.run.Run.after.Goals as goal

pub tell-requires : goal.tell-requires
tell-requires c =
    let plan = c.self.inside.plan in
    let used = c.self.inside.used in
    let asked = asks-some (want_after c.args.self.now) c.requires in
    let is = want-key plan used asked.0 asked.1 (ap want_after c.self.view_is ∙ asked.2) in
    record { new = ap (λ (u : Told). verdict_in u c.in_ok-key.key) c.in_ok-used.ensures ∙ ap (verdict_in used) (c.in_ok-key.ensures asked.0 asked.1 asked.2) ∙ is.new }
