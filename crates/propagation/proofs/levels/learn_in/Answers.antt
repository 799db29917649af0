use Rattle.std.proofs.Common.{subst, Some, None}
use Rattle.propagation.specs.inside.Levels.{IsHighest, front, last}
use Rattle.propagation.proofs.CutLaws.{highest-stands, lost-learned}
use Rattle.propagation.proofs.levels.learn_in.Goals as goal

pub returns-in-None-clause-state : goal.returns-in-None-clause-state
returns-in-None-clause-state c =
    let learned = c.args.learned.now in
    lost-learned c.args.problem.now (front learned) learned (last learned) c.requires.learned c.args.assumed.now c.args.trail.now c.args.own.now c.args.more.now c.args.marks.now.items c.args.base c.args.state
    (subst (λ ms. IsHighest c.args.state ms None) c.deref.ensures.value c.in-None.ensures) c.requires.state

pub learn_at-requires-clause-standing : goal.learn_at-requires-clause-standing
learn_at-requires-clause-standing c =
    (highest-stands c.args.problem.now (front c.args.learned.now) c.args.assumed.now c.args.trail.now c.args.own.now c.args.more.now c.args.marks.now.items c.args.base c.args.state c.in-Some.most
    (subst (λ ms. IsHighest c.args.state ms (Some c.in-Some.most)) c.deref.ensures.value c.in-Some.ensures) c.requires.state).0

pub learn_at-requires-clause-most : goal.learn_at-requires-clause-most
learn_at-requires-clause-most c =
    (highest-stands c.args.problem.now (front c.args.learned.now) c.args.assumed.now c.args.trail.now c.args.own.now c.args.more.now c.args.marks.now.items c.args.base c.args.state c.in-Some.most
    (subst (λ ms. IsHighest c.args.state ms (Some c.in-Some.most)) c.deref.ensures.value c.in-Some.ensures) c.requires.state).1

pub learn_at-requires-clause-top : goal.learn_at-requires-clause-top
learn_at-requires-clause-top c =
    (highest-stands c.args.problem.now (front c.args.learned.now) c.args.assumed.now c.args.trail.now c.args.own.now c.args.more.now c.args.marks.now.items c.args.base c.args.state c.in-Some.most
    (subst (λ ms. IsHighest c.args.state ms (Some c.in-Some.most)) c.deref.ensures.value c.in-Some.ensures) c.requires.state).2
