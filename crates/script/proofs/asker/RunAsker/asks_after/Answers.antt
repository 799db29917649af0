use Rattle.std.proofs.Common.{◌≡◌, ◌++◌, ◌∷◌, [], Some, ap, sym, ◌∙◌}
use Rattle.req_keys.specs.Key.{PositionSet}
use Rattle.script.specs.Job.{want}
use Rattle.script.specs.Running.{key_in, want_after}
use Rattle.script.proofs.AskedKeys.{some-asks}
use Rattle.script.proofs.asker.RunAsker.asks_after.Goals as goal

pub returns : goal.returns
returns c key e =
    let run = c.args.self.now in
    let asked = some-asks (want_after run) c.requires in
    let both : Some asked.1 ≡ Some key = sym (ap key_in asked.2) ∙ e in
    let same : asked.1 ≡ key = cc (both) in
    c.in_ok-asks.ensures asked.0 asked.1 asked.2
    ∙ ap (λ (k : PositionSet). key_in (want run.plan (run.told ++ (k, c.args.verdict) ∷ []))) same
