use Rattle.std.proofs.Common.{subst, ◌∙◌, sym}
use Rattle.hs_tree.specs.Hitting.{next_after}
use Rattle.script.specs.declared.going.Halt.{Halt}
use Rattle.script.specs.declared.stage.Stage.{Stage}
use Rattle.script.specs.inside.Going.{IsHalted, told_beside}
use Rattle.script.specs.inside.Stages.{IsAt}
use Rattle.script.proofs.StageLaws.{list-goes, list-waits, list-limit, list-ends}
use Rattle.script.proofs.stage.list.Goals as goal

pub returns-in-Waits : goal.returns-in-Waits
returns-in-Waits c =
    let told = told_beside c.args.told.now in
    let state = c.run_on.new.state in
    let is = list-goes c.args.plan told c.args.kept c.args.conflict c.args.state state c.requires.stands c.in_ok-run_on.ensures.start c.in_ok-run_on.ensures.has in
    list-waits c.args.plan told c.requires.table c.args.kept c.args.conflict state is
    (subst (λ (h : Halt). IsHalted state.first.n told (next_after state) h) c.in-Waits.is c.in_ok-run_on.ensures.halted)

pub returns-in-Limit : goal.returns-in-Limit
returns-in-Limit c =
    let told = told_beside c.args.told.now in
    let state = c.run_on.new.state in
    let is = list-goes c.args.plan told c.args.kept c.args.conflict c.args.state state c.requires.stands c.in_ok-run_on.ensures.start c.in_ok-run_on.ensures.has in
    subst (λ (s : Stage). IsAt c.args.plan told s) (sym c.limit_at.ensures)
    (list-limit c.args.plan told c.requires.table c.args.kept c.args.conflict state is c.in-Limit.key
    (subst (λ (h : Halt). IsHalted state.first.n told (next_after state) h) c.in-Limit.is c.in_ok-run_on.ensures.halted))

pub returns-in_ok-listing-in-Ends : goal.returns-in_ok-listing-in-Ends
returns-in_ok-listing-in-Ends c =
    let told = told_beside c.args.told.now in
    let state = c.run_on.new.state in
    let is = list-goes c.args.plan told c.args.kept c.args.conflict c.args.state state c.requires.stands c.in_ok-run_on.ensures.start c.in_ok-run_on.ensures.has in
    list-ends c.args.plan told c.requires.table c.args.kept c.args.conflict state is c.in_ok-listing-in-Ends.listing
    (subst (λ (h : Halt). IsHalted state.first.n told (next_after state) h) c.in-Ends.is c.in_ok-run_on.ensures.halted)
    (c.in_ok-listing-in-Ends.ensures ∙ c.found.ensures)
