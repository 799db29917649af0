use Rattle.std.proofs.Common.{ap, subst, length, take}
use Rattle.propagation.specs.declared.placing.Place.TheVariants as place
use Rattle.propagation.specs.inside.Levels.{front, last}
use Rattle.propagation.specs.inside.Places.{HasPlace, is_found, start_at}
use Rattle.propagation.proofs.EnterLaws.{enter-forced, enter-open, enter-refuted, late-below, none-below}
use Rattle.propagation.proofs.levels.enter.Goals as goal

pub returns-in-Open : goal.returns-in-Open
returns-in-Open c =
    let learned = c.args.learned.now in
    let before = take (start_at c.args.marks.now (length c.args.marks.now)) c.args.trail.now.literals in
    let at : HasPlace c.args.trail.now.literals before (last learned) (place.Open c.in-Open.one c.in-Open.other) = subst (HasPlace c.args.trail.now.literals before (last learned)) c.in-Open.is c.requires.place in
    enter-open c.args.problem.now (front learned) (last learned) c.args.assumed.now c.args.trail.now c.args.own.now c.args.more.now c.args.marks.now c.args.base c.requires.standing c.requires.top c.requires.clause learned c.requires.learned
    c.in-Open.one c.in-Open.other c.attach.new.self c.attach.ensures at.0 at.1 at.2 at.3 at.4

pub returns-in-Refuted : goal.returns-in-Refuted
returns-in-Refuted c =
    let learned = c.args.learned.now in
    let before = take (start_at c.args.marks.now (length c.args.marks.now)) c.args.trail.now.literals in
    enter-refuted c.args.problem.now (front learned) (last learned) c.args.assumed.now c.args.trail.now c.args.own.now c.args.more.now c.args.marks.now c.args.base c.requires.standing c.requires.top c.requires.clause learned c.requires.learned
    (c.requires.lowest (ap is_found c.in-Refuted.is))
    (subst (HasPlace c.args.trail.now.literals before (last learned)) c.in-Refuted.is c.requires.place)

pub returns-in-Forced : goal.returns-in-Forced
returns-in-Forced c =
    let learned = c.args.learned.now in
    let before = take (start_at c.args.marks.now (length c.args.marks.now)) c.args.trail.now.literals in
    let at : HasPlace c.args.trail.now.literals before (last learned) (place.Forced c.in-Forced.one c.in-Forced.other) = subst (HasPlace c.args.trail.now.literals before (last learned)) c.in-Forced.is c.requires.place in
    enter-forced c.args.problem.now (front learned) (last learned) c.args.assumed.now c.args.trail.now c.args.own.now c.args.more.now c.args.marks.now c.args.base c.requires.standing c.requires.top c.requires.clause learned c.requires.learned
    c.in-Forced.one c.in-Forced.other at.0 at.1 c.force-fits.new.trail c.force-fits.new.own c.force-fits.new.more c.force-fits.result c.force-fits.ensures.forced c.force-fits.ensures.parts c.force-fits.ensures.one_signed
    (late-below c.args.problem.now (front learned) (last learned) c.args.assumed.now c.args.trail.now c.args.own.now c.args.more.now c.args.marks.now c.args.base c.requires.standing c.in-Forced.one c.in-Forced.other at.0.not_false at.2 at.3)
    c.state_after.result c.state_after.ensures.rests c.state_after.ensures.lost c.state_after.ensures.clashes

pub returns-in-Alone : goal.returns-in-Alone
returns-in-Alone c =
    let learned = c.args.learned.now in
    let before = take (start_at c.args.marks.now (length c.args.marks.now)) c.args.trail.now.literals in
    let at : HasPlace c.args.trail.now.literals before (last learned) (place.Alone c.in-Alone.one) = subst (HasPlace c.args.trail.now.literals before (last learned)) c.in-Alone.is c.requires.place in
    enter-forced c.args.problem.now (front learned) (last learned) c.args.assumed.now c.args.trail.now c.args.own.now c.args.more.now c.args.marks.now c.args.base c.requires.standing c.requires.top c.requires.clause learned c.requires.learned
    c.in-Alone.one c.in-Alone.one at.0 at.0.inside c.force-fits-in-Alone.new.trail c.force-fits-in-Alone.new.own c.force-fits-in-Alone.new.more c.force-fits-in-Alone.result c.force-fits-in-Alone.ensures.forced c.force-fits-in-Alone.ensures.parts c.force-fits-in-Alone.ensures.one_signed
    (none-below c.args.problem.now (front learned) (last learned) c.args.assumed.now c.args.trail.now c.args.own.now c.args.more.now c.args.marks.now c.args.base c.requires.standing c.in-Alone.one c.in-Alone.one (c.requires.lowest (ap is_found c.in-Alone.is)))
    c.state_after-in-Alone.result c.state_after-in-Alone.ensures.rests c.state_after-in-Alone.ensures.lost c.state_after-in-Alone.ensures.clashes
