use Rattle.std.proofs.Common.{◌≡◌, [], ◌∷◌, ap, ◌∙◌, sym, subst}
use Rattle.hs_tree.specs.Hitting.{Hitting}
use Rattle.quick_xplain.specs.Explaining.{Explaining}
use Rattle.req_keys.specs.Key.{PositionSet}
use Rattle.script.specs.Job.{Told}
use Rattle.script.specs.declared.stage.Stage.{Stage}
use Rattle.script.specs.inside.Going.{IsTable, told_beside}
use Rattle.script.specs.inside.Stages.{IsAt, IsExplaining, IsListing}
use Rattle.script.proofs.SequentialRuns.{want-key}
use Rattle.script.proofs.StageLaws.{explain-goes, keep-goes, list-goes}
use Rattle.script.proofs.StageMore.{asked-over, explain-more, keep-more, list-more, same-key}
use Rattle.script.proofs.run.after.Goals as goal

pub advance-requires : goal.advance-requires
advance-requires c =
    let plan = c.args.plan in
    let used = c.args.told.now.used.now in
    let key = c.args.told.now.key.now in
    let one : Told = (key, c.args.told.now.verdict) ∷ [] in
    let at = subst (λ (s : Stage). IsAt plan used s) c.in-Kept.is c.requires.at in
    let asked = at.1 in
    let is = want-key plan used c.requires.asks.0 key c.requires.asks.1 in
    let over = same-key _ _ _ key _ c.requires.asks.1 asked.2 in
    let size = at.0.size in
    record {
      asks = (asked.0, asked.1, asked-over plan.requirements c.in-Kept.state.n key asked.0 size over);
      new = is.new;
      table = subst (λ n. IsTable n (told_beside c.args.told.now)) (sym size) c.requires.table;
      has = (keep-more plan.requirements used one c.in-Kept.state at.0).has;
    }

pub advance-requires-in-Conflict : goal.advance-requires-in-Conflict
advance-requires-in-Conflict c =
    let plan = c.args.plan in
    let used = c.args.told.now.used.now in
    let key = c.args.told.now.key.now in
    let one : Told = (key, c.args.told.now.verdict) ∷ [] in
    let at = subst (λ (s : Stage). IsAt plan used s) c.in-Conflict.is c.requires.at in
    let asked = at.1 in
    let is = want-key plan used c.requires.asks.0 key c.requires.asks.1 in
    let over = same-key _ _ _ key _ c.requires.asks.1 asked.2 in
    let size = (ap (λ (s : PositionSet). s.n) at.0.among) in
    record {
      asks = (asked.0, asked.1, asked-over plan.requirements c.in-Conflict.state.among.n key asked.0 size over);
      new = is.new;
      table = subst (λ n. IsTable n (told_beside c.args.told.now)) (sym size) c.requires.table;
      has = (explain-more plan.requirements used one c.in-Conflict.kept c.in-Conflict.state at.0).has;
    }

pub advance-requires-in-Listing : goal.advance-requires-in-Listing
advance-requires-in-Listing c =
    let plan = c.args.plan in
    let used = c.args.told.now.used.now in
    let key = c.args.told.now.key.now in
    let one : Told = (key, c.args.told.now.verdict) ∷ [] in
    let at = subst (λ (s : Stage). IsAt plan used s) c.in-Listing.is c.requires.at in
    let asked = at.1 in
    let is = want-key plan used c.requires.asks.0 key c.requires.asks.1 in
    let over = same-key _ _ _ key _ c.requires.asks.1 asked.2 in
    let size = (ap (λ (s : PositionSet). s.n) at.0.first ∙ at.0.behind.size) in
    record {
      asks = (asked.0, asked.1, asked-over plan.requirements c.in-Listing.state.first.n key asked.0 size over);
      new = is.new;
      table = subst (λ n. IsTable n (told_beside c.args.told.now)) (sym size) c.requires.table;
      has = (list-more plan used one c.in-Listing.kept c.in-Listing.conflict c.in-Listing.state at.0).has;
    }

pub keep-requires-clause-stands : goal.keep-requires-clause-stands
keep-requires-clause-stands c =
    let plan = c.args.plan in
    let used = c.args.told.now.used.now in
    let key = c.args.told.now.key.now in
    let one : Told = (key, c.args.told.now.verdict) ∷ [] in
    let at = subst (λ (s : Stage). IsAt plan used s) c.in-Kept.is c.requires.at in
    keep-goes plan.requirements (told_beside c.args.told.now) c.in-Kept.state c.in_ok-state-in-Kept.state (keep-more plan.requirements used one c.in-Kept.state at.0) c.in_ok-state-in-Kept.ensures.start c.in_ok-state-in-Kept.ensures.has

pub explain-requires-clause-stands : goal.explain-requires-clause-stands
explain-requires-clause-stands c =
    let plan = c.args.plan in
    let used = c.args.told.now.used.now in
    let key = c.args.told.now.key.now in
    let one : Told = (key, c.args.told.now.verdict) ∷ [] in
    let at = subst (λ (s : Stage). IsAt plan used s) c.in-Conflict.is c.requires.at in
    let told = told_beside c.args.told.now in
    explain-goes plan.requirements told c.in_ok-kept-in-Conflict.kept c.in-Conflict.state c.in_ok-state-in-Conflict.state
    (subst (λ (k : PositionSet). IsExplaining plan.requirements told k c.in-Conflict.state) (sym c.in_ok-kept-in-Conflict.ensures) (explain-more plan.requirements used one c.in-Conflict.kept c.in-Conflict.state at.0))
    c.in_ok-state-in-Conflict.ensures.start c.in_ok-state-in-Conflict.ensures.has

pub list-requires-clause-stands : goal.list-requires-clause-stands
list-requires-clause-stands c =
    let plan = c.args.plan in
    let used = c.args.told.now.used.now in
    let key = c.args.told.now.key.now in
    let one : Told = (key, c.args.told.now.verdict) ∷ [] in
    let at = subst (λ (s : Stage). IsAt plan used s) c.in-Listing.is c.requires.at in
    let told = told_beside c.args.told.now in
    list-goes plan told c.in_ok-kept-in-Listing.kept c.in_ok-conflict-in-Listing.conflict c.in-Listing.state c.in_ok-state-in-Listing.state
    (subst (λ (k : PositionSet). IsListing plan told c.in_ok-kept-in-Listing.kept k c.in-Listing.state) (sym c.in_ok-conflict-in-Listing.ensures)
    (subst (λ (k : PositionSet). IsListing plan told k c.in-Listing.conflict c.in-Listing.state) (sym c.in_ok-kept-in-Listing.ensures)
    (list-more plan used one c.in-Listing.kept c.in-Listing.conflict c.in-Listing.state at.0)))
    c.in_ok-state-in-Listing.ensures.start c.in_ok-state-in-Listing.ensures.has
