use Rattle.std.proofs.Common.{List, subst, ap, ◌∙◌, sym}
use Rattle.pref_sets.specs.Answers.{Answer}
use Rattle.fast_diag.specs.Diagnosing.{next_of}
use Rattle.quick_xplain.specs.Explaining.{Explaining}
use Rattle.script.specs.Job.{answers_of, ends}
use Rattle.script.specs.declared.going.Halt.{Halt}
use Rattle.script.specs.declared.job.Outcome.TheVariants as outcome
use Rattle.script.specs.declared.job.Part.TheVariants as part
use Rattle.script.specs.declared.job.Parts.{Parts}
use Rattle.script.specs.declared.stage.Stage.{Stage}
use Rattle.script.specs.inside.Going.{HasAll, IsHalted, told_beside}
use Rattle.script.specs.inside.Stages.{IsAt}
use Rattle.script.proofs.StageLaws.{has-none, keep-goes, keep-waits, keep-limit, keep-ends}
use Rattle.script.proofs.stage.keep.Goals as goal

pub returns-in-Waits : goal.returns-in-Waits
returns-in-Waits c =
    let told = told_beside c.args.told.now in
    let state = c.run_on.new.state in
    let is = keep-goes c.args.plan.requirements told c.args.state state c.requires.stands c.in_ok-run_on.ensures.start c.in_ok-run_on.ensures.has in
    keep-waits c.args.plan told c.requires.table state is
    (subst (λ (h : Halt). IsHalted state.n told (next_of state) h) c.in-Waits.is c.in_ok-run_on.ensures.halted)

pub returns-in-Limit : goal.returns-in-Limit
returns-in-Limit c =
    let told = told_beside c.args.told.now in
    let state = c.run_on.new.state in
    let is = keep-goes c.args.plan.requirements told c.args.state state c.requires.stands c.in_ok-run_on.ensures.start c.in_ok-run_on.ensures.has in
    subst (λ (s : Stage). IsAt c.args.plan told s) (sym c.limit_at.ensures)
    (keep-limit c.args.plan told c.requires.table state c.in-Limit.key is
    (subst (λ (h : Halt). IsHalted state.n told (next_of state) h) c.in-Limit.is c.in_ok-run_on.ensures.halted)
    ∙ ap (λ (p : Parts). ends (outcome.LimitAt part.Kept c.in-Limit.key p)) (sym c.no_parts.ensures))

pub explain-requires-clause-stands : goal.explain-requires-clause-stands
explain-requires-clause-stands c =
    let told = told_beside c.args.told.now in
    let state = c.run_on.new.state in
    let is = keep-goes c.args.plan.requirements told c.args.state state c.requires.stands c.in_ok-run_on.ensures.start c.in_ok-run_on.ensures.has in
    let start = c.in_ok-state-in-Ends.ensures in
    record {
      behind = keep-ends c.args.plan told c.requires.table state c.in_ok-kept-in-Ends.kept is
          (subst (λ (h : Halt). IsHalted state.n told (next_of state) h) c.in-Ends.is c.in_ok-run_on.ensures.halted)
          (λ set e. c.in_ok-kept-in-Ends.ensures ∙ c.kept.ensures set e);
      among = ap (λ (e : Explaining). e.among) start ∙ c.in_ok-full-in-Ends.ensures;
      has = subst (λ (a : List Answer). HasAll a (answers_of told)) (sym (ap (λ (e : Explaining). e.told) start)) (has-none (answers_of told));
    }
