use Rattle.std.proofs.Common.{◌≡◌, ◌∙◌, refl, sym, ap, subst, [], ◌++◌, length, arith}
use Rattle.std.specs.Prelude.{All}
use Rattle.clauses.specs.Problem.{IsBelow}
use Rattle.propagation.specs.inside.Building.{AreAllWatched}
use Rattle.propagation.specs.inside.Levels.{AreParts, HasPropagated}
use Rattle.propagation.specs.inside.Pairing.{ArePaired}
use Rattle.propagation.specs.inside.Watching.{AreCovered, AreInside, Watching}
use Rattle.propagation.proofs.EnterLaws.{no-items}
use Rattle.propagation.proofs.BuildLaws.{begun-dead, begun-rests, dead-from}
use Rattle.propagation.proofs.building.begin.Goals as goal

pub returns-then-not-branch : goal.returns-then-not-branch
returns-then-not-branch c = (dead-from c.args.problem.now.clauses (subst (AreAllWatched c.args.problem.now c.watch_all.new.own c.watch_all.new.trail) c.if-not-branch.true c.in_ok-watch_all.ensures), refl)

pub set_apart-requires-clause-inside : goal.set_apart-requires-clause-inside
set_apart-requires-clause-inside c =
    let are = subst (AreAllWatched c.args.problem.now c.watch_all.new.own c.watch_all.new.trail) c.if-not-branch.false c.in_ok-watch_all.ensures in
    subst (λ cs. AreInside cs c.watch_all.new.own.watched) (sym c.clauses.ensures.clauses) are.inside

pub propagate-fits-requires : goal.propagate-fits-requires
propagate-fits-requires c =
    let are = subst (AreAllWatched c.args.problem.now c.watch_all.new.own c.watch_all.new.trail) c.if-not-branch.false c.in_ok-watch_all.ensures in
    let size = ap length c.requires.more_empty in
    let own : Watching = c.set_apart.new.self in
    let same : own.watched ≡ c.watch_all.new.own.watched = c.in_ok-set_apart.ensures.watched in
    let clauses = c.clauses.ensures.clauses in
    record {
      parts = record {
        trail_of = are.trail_of;
        own_of = c.in_ok-set_apart.ensures.variables ∙ are.own_of;
        more_of = c.requires.more_of;
        clauses_below = c.clauses.ensures.lawful.clauses_below;
        learned_below = subst (All (All (IsBelow c.args.problem.now.variables))) (sym c.requires.learned_empty) (λ k d l. absurd (omega arith));
        own_inside = subst (AreInside c.args.problem.now.clauses) (sym same) are.inside;
        more_inside = subst (λ cs. AreInside cs c.args.more.now.watched) (sym c.requires.learned_empty) (size, (λ e i. absurd (omega arith)));
        own_paired = subst (λ cs. ArePaired cs own.pairs) clauses c.in_ok-set_apart.ensures.paired;
        more_plain = c.requires.more_plain;
      };
      start = omega arith;
      own_covered = subst (AreCovered [] c.watch_all.new.trail.literals) (sym same) are.covered;
      more_covered = (λ e i. absurd (omega arith));
    }

pub returns-then-fits : goal.returns-then-fits
returns-then-fits c =
    let are = subst (AreAllWatched c.args.problem.now c.watch_all.new.own c.watch_all.new.trail) c.if-not-branch.false c.in_ok-watch_all.ensures in
    let parts : AreParts c.args.problem.now [] c.propagate-fits.new.trail c.propagate-fits.new.own c.propagate-fits.new.more = subst (λ cs. AreParts c.args.problem.now cs c.propagate-fits.new.trail c.propagate-fits.new.own c.propagate-fits.new.more) c.requires.learned_empty c.propagate-fits.ensures.parts in
    let empty : c.propagate-fits.new.more.watched ≡ [] = no-items c.propagate-fits.new.more.watched parts.more_inside.0 in
    begun-rests c.args.problem.now c.set_apart.new.self c.propagate-fits.new.own c.args.more.now c.propagate-fits.new.more c.watch_all.new.trail c.propagate-fits.new.trail c.propagate-fits.result are.sound empty
    (subst (λ cs. HasPropagated (c.args.problem.now.clauses ++ cs) c.watch_all.new.trail c.propagate-fits.new.trail c.set_apart.new.self c.propagate-fits.new.own c.args.more.now c.propagate-fits.new.more c.propagate-fits.result) c.requires.learned_empty c.propagate-fits.ensures.done)
    c.if-fits.true parts c.len.ensures.one_signed

pub returns-else-fits : goal.returns-else-fits
returns-else-fits c =
    let are = subst (AreAllWatched c.args.problem.now c.watch_all.new.own c.watch_all.new.trail) c.if-not-branch.false c.in_ok-watch_all.ensures in
    let parts : AreParts c.args.problem.now [] c.propagate-fits.new.trail c.propagate-fits.new.own c.propagate-fits.new.more = subst (λ cs. AreParts c.args.problem.now cs c.propagate-fits.new.trail c.propagate-fits.new.own c.propagate-fits.new.more) c.requires.learned_empty c.propagate-fits.ensures.parts in
    let empty : c.propagate-fits.new.more.watched ≡ [] = no-items c.propagate-fits.new.more.watched parts.more_inside.0 in (
      begun-dead c.args.problem.now c.set_apart.new.self c.propagate-fits.new.own c.args.more.now c.propagate-fits.new.more c.watch_all.new.trail c.propagate-fits.new.trail c.propagate-fits.result are.sound empty
          (subst (λ cs. HasPropagated (c.args.problem.now.clauses ++ cs) c.watch_all.new.trail c.propagate-fits.new.trail c.set_apart.new.self c.propagate-fits.new.own c.args.more.now c.propagate-fits.new.more c.propagate-fits.result) c.requires.learned_empty c.propagate-fits.ensures.done)
          c.if-fits.false,
      refl,
    )
