use Rattle.std.proofs.Common.{ap}
use Rattle.script.specs.Job.{Told, want}
use Rattle.script.specs.Running.{Running, key_in, want_after}
use Rattle.script.proofs.AskedKeys.{some-asks}
use Rattle.script.proofs.asker.RunAsker.tell.Goals as goal

pub returns-clause-wants : goal.returns-clause-wants
returns-clause-wants c =
    let asked = some-asks (want_after c.args.self.now) c.requires in
    ap (λ (r : Running). λ (told : Told). key_in (want r.plan told)) (c.in_ok-tell.ensures.ok asked.0 asked.1 asked.2)

pub returns-clause-n : goal.returns-clause-n
returns-clause-n c =
    let asked = some-asks (want_after c.args.self.now) c.requires in
    ap (λ (r : Running). r.plan.requirements) (c.in_ok-tell.ensures.ok asked.0 asked.1 asked.2)
