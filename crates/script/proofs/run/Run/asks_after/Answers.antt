use Rattle.std.proofs.Common.{◌++◌, ◌∷◌, [], ap, ◌∙◌}
use Rattle.req_keys.specs.Key.{PositionSet}
use Rattle.script.specs.Job.{want}
use Rattle.script.specs.Running.{key_in}
use Rattle.script.proofs.run.Run.asks_after.Goals as goal

pub returns : goal.returns
returns c part key e =
    let run = c.args.self.now in
    let verdict = c.args.verdict in
    c.in_ok-asks.ensures run.plan (run.told ++ (c.in_ok-key.key, verdict) ∷ []) c.in_ok-stage.ensures.at
    ∙ ap (λ (k : PositionSet). key_in (want run.plan (run.told ++ (k, verdict) ∷ []))) (c.in_ok-key.ensures part key e)
