use Rattle.std.proofs.Common.{[], ◌∷◌, ◌++◌, ap, subst, ◌∙◌}
use Rattle.script.specs.Running.{Running, want_after}
use Rattle.script.specs.inside.Stages.{Stands}
use Rattle.script.proofs.Answering.{table-push}
use Rattle.script.proofs.SequentialRuns.{want-key}
use Rattle.script.proofs.run.Run.next.Goals as goal

pub after-requires-clause-table : goal.after-requires-clause-table
after-requires-clause-table c =
    let plan = c.self.inside.plan in
    let used = c.self.inside.used in
    let is = want-key plan used c.requires.0 c.args.key.now (ap want_after c.self.view_is ∙ c.requires.1) in
    table-push plan.requirements used c.args.key.now c.args.verdict c.self.invariant.table is.size is.new

pub returns : goal.returns
returns c =
    let plan = c.self.inside.plan in
    let used = c.self.inside.used in
    let is = want-key plan used c.requires.0 c.args.key.now (ap want_after c.self.view_is ∙ c.requires.1) in
    subst (λ (r : Running). Stands r.plan (r.told ++ (c.args.key.now, c.args.verdict) ∷ []) c.in_ok-stage.stage) c.self.view_is
    (record {
      plan_is = c.self.invariant.plan_is;
      table = table-push plan.requirements used c.args.key.now c.args.verdict c.self.invariant.table is.size is.new;
      at = c.in_ok-stage.ensures;
    })
