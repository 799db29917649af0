use Rattle.std.proofs.Common.{◌∙◌, Option, subst}
use Rattle.std.specs.Prelude.{MatchOption}
use Rattle.hs_tree.specs.declared.sets.Asking.{Asking}
use Rattle.hs_tree.specs.inside.Left.{is_last, place_at}
use Rattle.hs_tree.specs.inside.Places.{at_place, sets_of}
use Rattle.hs_tree.specs.inside.Steps.{IsSetDone, IsSetWaiting, from_waiting}
use Rattle.hs_tree.specs.inside.Told.{answers_of}
use Rattle.hs_tree.proofs.MadeLevels.{again-done}
use Rattle.hs_tree.proofs.state.this_level.Goals as goal

pub returns-in_ok-further-in-None-clause-goes : goal.returns-in_ok-further-in-None-clause-goes
returns-in_ok-further-in-None-clause-goes c table has =
    let level = c.args.level.now in
    let told = answers_of c.args.told.now in
    let old = c.args.found.now in
    let new = c.again.new.found in
    let last = is_last level.left in
    let set = at_place (sets_of level.sets) (place_at level old) in
    let done = subst (λ (further : Option Asking). MatchOption further (IsSetDone told old new set (from_waiting last set c.args.asking.now)) (IsSetWaiting level.n told last old new set (from_waiting last set c.args.asking.now))) c.in-None.is c.in_ok-asking.ensures.goes in
    again-done level old new told c.args.asking.now c.requires.inside c.requires.within c.in_ok-asking.ensures.grows done table has
    ∙ c.in_ok-further-in-None.ensures.goes table has
