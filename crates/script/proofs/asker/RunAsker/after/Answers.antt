use Rattle.std.proofs.Common.{◌≡◌, ◌++◌, ◌∷◌, [], Some, ap, sym, ◌∙◌}
use Rattle.req_keys.specs.Key.{PositionSet}
use Rattle.script.specs.Job.{Told, want}
use Rattle.script.specs.Running.{Running, key_in, want_after}
use Rattle.script.proofs.AskedKeys.{some-asks}
use Rattle.script.proofs.asker.RunAsker.after.Goals as goal

pub returns-clause-told : goal.returns-clause-told
returns-clause-told c key e =
    let run = c.args.self.now in
    let asked = some-asks (want_after run) c.requires in
    let both : Some asked.1 ≡ Some key = sym (ap key_in asked.2) ∙ e in
    let same : asked.1 ≡ key = cc (both) in
    ap (λ (r : Running). r.told) (c.in_ok-next.ensures asked.0 asked.1 asked.2)
    ∙ ap (λ (k : PositionSet). run.told ++ (k, c.args.verdict) ∷ []) same

pub returns-clause-wants : goal.returns-clause-wants
returns-clause-wants c =
    let asked = some-asks (want_after c.args.self.now) c.requires in
    ap (λ (r : Running). λ (told : Told). key_in (want r.plan told)) (c.in_ok-next.ensures asked.0 asked.1 asked.2)

pub returns-clause-n : goal.returns-clause-n
returns-clause-n c =
    let asked = some-asks (want_after c.args.self.now) c.requires in
    ap (λ (r : Running). r.plan.requirements) (c.in_ok-next.ensures asked.0 asked.1 asked.2)
