use Rattle.std.proofs.Common.{sym, subst, ◌++◌, take, arith}
use Rattle.propagation.specs.inside.Levels.{AreParts, HasPropagated, front, last}
use Rattle.propagation.specs.inside.Watching.{AreCovered, Watching}
use Rattle.propagation.proofs.LearnLaws.{learned-parts, own-ready, more-ready, taken-longer, taken-variables}
use Rattle.propagation.proofs.levels.force.Goals as goal

pub propagate-fits-requires-clause-parts : goal.propagate-fits-requires-clause-parts
propagate-fits-requires-clause-parts c =
    let learned = c.args.learned.now in
    subst (λ cs. AreParts c.args.problem.now cs c.take_in.new.self c.args.own.now c.attach.new.self) (sym c.requires.learned)
    (learned-parts c.args.problem.now (front learned) (last learned) c.args.one c.args.other c.requires.unit.inside c.requires.other c.requires.clause c.args.more.now c.attach.new.self c.attach.ensures c.args.trail.now c.take_in.new.self c.args.own.now
    (taken-variables c.args.problem.now (front learned) (last learned) c.args.one c.args.other c.requires.unit.inside c.requires.other c.requires.clause c.args.more.now c.attach.new.self c.attach.ensures c.args.trail.now c.take_in.new.self c.take_in.ensures c.requires.unit)
    c.requires.parts)

pub propagate-fits-requires-clause-start : goal.propagate-fits-requires-clause-start
propagate-fits-requires-clause-start c =
    let learned = c.args.learned.now in
    let longer = taken-longer c.args.problem.now (front learned) (last learned) c.args.one c.args.other c.requires.unit.inside c.requires.other c.requires.clause c.args.more.now c.attach.new.self c.attach.ensures c.args.trail.now c.take_in.new.self c.take_in.ensures c.requires.unit in
    let l = c.len-start.ensures.value in
    omega arith

pub propagate-fits-requires-clause-own_covered : goal.propagate-fits-requires-clause-own_covered
propagate-fits-requires-clause-own_covered c =
    let learned = c.args.learned.now in
    subst (λ n. AreCovered (take n c.take_in.new.self.literals) c.take_in.new.self.literals c.args.own.now.watched) (sym c.len-start.ensures.value)
    (own-ready c.args.problem.now (front learned) (last learned) c.args.one c.args.other c.requires.unit.inside c.requires.other c.requires.clause c.args.more.now c.attach.new.self c.attach.ensures c.args.trail.now c.take_in.new.self c.take_in.ensures c.requires.unit
    c.args.own.now.watched c.requires.own_covered)

pub propagate-fits-requires-clause-more_covered : goal.propagate-fits-requires-clause-more_covered
propagate-fits-requires-clause-more_covered c =
    let learned = c.args.learned.now in
    subst (λ n. AreCovered (take n c.take_in.new.self.literals) c.take_in.new.self.literals c.attach.new.self.watched) (sym c.len-start.ensures.value)
    (more-ready c.args.problem.now (front learned) (last learned) c.args.one c.args.other c.requires.unit.inside c.requires.other c.requires.clause c.args.more.now c.attach.new.self c.attach.ensures c.args.trail.now c.take_in.new.self c.take_in.ensures c.requires.unit
    c.requires.parts.more_inside c.requires.more_covered)

pub returns-clause-forced : goal.returns-clause-forced
returns-clause-forced c = record {
  taken = c.take_in.new.self;
  is_taken = c.take_in.ensures;
  done =
      subst (λ (w : Watching). HasPropagated (c.args.problem.now.clauses ++ c.args.learned.now) c.take_in.new.self c.propagate-fits.new.trail c.args.own.now c.propagate-fits.new.own w c.propagate-fits.new.more c.propagate-fits.result) c.attach.ensures
      c.propagate-fits.ensures.done;
}
