use Rattle.std.proofs.Common.{subst, ◌∙◌, sym}
use Rattle.quick_xplain.specs.Explaining.{next_of}
use Rattle.script.specs.declared.going.Halt.{Halt}
use Rattle.script.specs.declared.stage.Stage.{Stage}
use Rattle.script.specs.inside.Going.{IsHalted, told_beside}
use Rattle.script.specs.inside.Stages.{IsAt}
use Rattle.script.proofs.StageLaws.{explain-goes, explain-waits, explain-limit, explain-ends}
use Rattle.script.proofs.stage.explain.Goals as goal

pub returns-in-Waits : goal.returns-in-Waits
returns-in-Waits c =
    let told = told_beside c.args.told.now in
    let state = c.run_on.new.state in
    let is = explain-goes c.args.plan.requirements told c.args.kept c.args.state state c.requires.stands c.in_ok-run_on.ensures.start c.in_ok-run_on.ensures.has in
    explain-waits c.args.plan told c.requires.table c.args.kept state is
    (subst (λ (h : Halt). IsHalted state.among.n told (next_of state) h) c.in-Waits.is c.in_ok-run_on.ensures.halted)

pub returns-in-Limit : goal.returns-in-Limit
returns-in-Limit c =
    let told = told_beside c.args.told.now in
    let state = c.run_on.new.state in
    let is = explain-goes c.args.plan.requirements told c.args.kept c.args.state state c.requires.stands c.in_ok-run_on.ensures.start c.in_ok-run_on.ensures.has in
    subst (λ (s : Stage). IsAt c.args.plan told s) (sym c.limit_at.ensures)
    (explain-limit c.args.plan told c.requires.table c.args.kept state c.in-Limit.key is
    (subst (λ (h : Halt). IsHalted state.among.n told (next_of state) h) c.in-Limit.is c.in_ok-run_on.ensures.halted))

pub list_or_end-requires-clause-stands : goal.list_or_end-requires-clause-stands
list_or_end-requires-clause-stands c =
    let told = told_beside c.args.told.now in
    let state = c.run_on.new.state in
    let is = explain-goes c.args.plan.requirements told c.args.kept c.args.state state c.requires.stands c.in_ok-run_on.ensures.start c.in_ok-run_on.ensures.has in
    explain-ends c.args.plan told c.requires.table c.args.kept state c.in_ok-conflict-in-Ends.conflict is
    (subst (λ (h : Halt). IsHalted state.among.n told (next_of state) h) c.in-Ends.is c.in_ok-run_on.ensures.halted)
    (λ set e. c.in_ok-conflict-in-Ends.ensures ∙ c.conflict.ensures set e)
