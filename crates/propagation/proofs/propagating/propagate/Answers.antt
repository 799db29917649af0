use Rattle.std.proofs.Common.{◌≡◌, ◌∙◌, refl, sym, ap, subst, ◌+◌, ◌<◌, List, [], ◌∷◌, ◌++◌, length, take, false, arith}
use Rattle.std.specs.Prelude.{Any, Contains}
use Rattle.std.proofs.lemmas.List.{take_all, take-append-le, length-append}
use Rattle.std.proofs.lemmas.List.Elements.{Contains-append_left, Contains-append_right, Contains-get_or}
use Rattle.std.proofs.lemmas.Option.{slice_get_within}
use Rattle.clauses.specs.declared.literal.Lit.{Lit}
use Rattle.clauses.specs.Clause.{negation, negative_of}
use Rattle.propagation.specs.inside.Pairing.{ArePaired}
use Rattle.propagation.specs.inside.Trails.{code_of}
use Rattle.propagation.specs.inside.Watching.{AreCovered, AreInside, IsGrowth, IsRefuted}
use Rattle.propagation.proofs.WalkLaws.{growth-within}
use Rattle.propagation.proofs.PropagateLaws.{going-start, going-refuted, going-done, head-literal, next-covered, own-spread, more-spread, refuted-part, take-next, take-subset}
use Rattle.propagation.proofs.CoverLaws.{covered-more}
use Rattle.propagation.proofs.WatchLaws.{row-plain}
use Rattle.propagation.proofs.propagating.propagate.Goals as goal

pub loop-head-init : goal.loop-head-init
loop-head-init c = record {
  within = c.requires.start;
  going = going-start c.args.problem.now c.args.learned.now c.args.trail.now c.args.own.now c.args.more.now c.requires.parts;
  own_covered = c.requires.own_covered;
  more_covered = c.requires.more_covered;
}

pub spread-requires-clause-inside : goal.spread-requires-clause-inside
spread-requires-clause-inside c = subst (λ cs. AreInside cs c.loop-head.own.watched) (sym c.clauses.ensures.clauses) c.loop-head.invariant.going.parts.own_inside

pub spread-requires-clause-paired : goal.spread-requires-clause-paired
spread-requires-clause-paired c = subst (λ cs. ArePaired cs c.loop-head.own.pairs) (sym c.clauses.ensures.clauses) c.loop-head.invariant.going.parts.own_paired

pub spread-requires-clause-is_false : goal.spread-requires-clause-is_false
spread-requires-clause-is_false c =
    let trail : List Lit = c.loop-head.trail.literals in
    let inside = slice_get_within trail c.loop-head.head c.get.result c.get.ensures.value in
    subst (Contains trail) (head-literal trail c.loop-head.head c.get.result c.get.ensures.value ∙ ap negation (sym c.negated-literal.ensures)) (Contains-get_or trail c.loop-head.head (negative_of 0) inside)

pub returns-then-not-spread-clause-parts : goal.returns-then-not-spread-clause-parts
returns-then-not-spread-clause-parts c =
    let is = c.loop-head.invariant.going in
    let clauses = c.clauses.ensures.clauses in
    let one = own-spread c.args.problem.now c.args.learned.now c.args.trail.now c.args.own.now c.args.more.now c.loop-head.trail c.loop-head.own c.loop-head.more is c.spread.new.trail c.spread.new.self c.spread.ensures.same c.spread.ensures.pairs
    (subst (λ cs. AreInside cs c.spread.new.self.watched) clauses c.spread.ensures.inside)
    (subst (λ cs. IsGrowth cs c.loop-head.trail c.spread.new.trail) clauses c.spread.ensures.growth)
    c.spread.ensures.kept in
    one.parts

pub returns-then-not-spread-clause-done : goal.returns-then-not-spread-clause-done
returns-then-not-spread-clause-done c =
    let is = c.loop-head.invariant.going in
    let clauses = c.clauses.ensures.clauses in
    let one = own-spread c.args.problem.now c.args.learned.now c.args.trail.now c.args.own.now c.args.more.now c.loop-head.trail c.loop-head.own c.loop-head.more is c.spread.new.trail c.spread.new.self c.spread.ensures.same c.spread.ensures.pairs
    (subst (λ cs. AreInside cs c.spread.new.self.watched) clauses c.spread.ensures.inside)
    (subst (λ cs. IsGrowth cs c.loop-head.trail c.spread.new.trail) clauses c.spread.ensures.growth)
    c.spread.ensures.kept in
    let all = c.args.problem.now.clauses ++ c.args.learned.now in
    going-refuted c.args.problem.now c.args.learned.now c.args.trail.now c.args.own.now c.args.more.now c.spread.new.trail c.spread.new.self c.loop-head.more one
    (refuted-part c.args.problem.now.clauses all c.spread.new.trail.literals (λ k m. Contains-append_left c.args.problem.now.clauses c.args.learned.now k m)
    (subst (λ cs. Any (IsRefuted c.spread.new.trail.literals) cs) clauses (c.spread.ensures.refuted c.if-not-spread.true)))
    false refl

pub spread-requires-in-loop-head-clause-inside : goal.spread-requires-in-loop-head-clause-inside
spread-requires-in-loop-head-clause-inside c = c.loop-head.invariant.going.parts.more_inside

pub spread-requires-in-loop-head-clause-paired : goal.spread-requires-in-loop-head-clause-paired
spread-requires-in-loop-head-clause-paired c one other m = absurd (row-plain c.loop-head.more.pairs c.loop-head.invariant.going.parts.more_plain (code_of one) other m)

pub spread-requires-in-loop-head-clause-variables : goal.spread-requires-in-loop-head-clause-variables
spread-requires-in-loop-head-clause-variables c = c.spread.ensures.growth.same ∙ c.loop-head.invariant.going.parts.trail_of ∙ sym c.loop-head.invariant.going.parts.more_of

pub spread-requires-in-loop-head-clause-is_false : goal.spread-requires-in-loop-head-clause-is_false
spread-requires-in-loop-head-clause-is_false c =
    let trail : List Lit = c.loop-head.trail.literals in
    let inside = slice_get_within trail c.loop-head.head c.get.result c.get.ensures.value in
    growth-within c.clauses.result.now c.loop-head.trail c.spread.new.trail c.spread.ensures.growth (negation c.negated-literal.result)
    (subst (Contains trail) (head-literal trail c.loop-head.head c.get.result c.get.ensures.value ∙ ap negation (sym c.negated-literal.ensures)) (Contains-get_or trail c.loop-head.head (negative_of 0) inside))

pub returns-then-not-spread-2-clause-parts : goal.returns-then-not-spread-2-clause-parts
returns-then-not-spread-2-clause-parts c =
    let is = c.loop-head.invariant.going in
    let clauses = c.clauses.ensures.clauses in
    let one = own-spread c.args.problem.now c.args.learned.now c.args.trail.now c.args.own.now c.args.more.now c.loop-head.trail c.loop-head.own c.loop-head.more is c.spread.new.trail c.spread.new.self c.spread.ensures.same c.spread.ensures.pairs
    (subst (λ cs. AreInside cs c.spread.new.self.watched) clauses c.spread.ensures.inside)
    (subst (λ cs. IsGrowth cs c.loop-head.trail c.spread.new.trail) clauses c.spread.ensures.growth)
    c.spread.ensures.kept in
    let two = more-spread c.args.problem.now c.args.learned.now c.args.trail.now c.args.own.now c.args.more.now c.spread.new.trail c.spread.new.self c.loop-head.more one c.spread-in-loop-head.new.trail c.spread-in-loop-head.new.self c.spread-in-loop-head.ensures.same c.spread-in-loop-head.ensures.pairs
    c.spread-in-loop-head.ensures.inside
    c.spread-in-loop-head.ensures.growth
    c.spread-in-loop-head.ensures.kept in
    two.parts

pub returns-then-not-spread-2-clause-done : goal.returns-then-not-spread-2-clause-done
returns-then-not-spread-2-clause-done c =
    let is = c.loop-head.invariant.going in
    let clauses = c.clauses.ensures.clauses in
    let one = own-spread c.args.problem.now c.args.learned.now c.args.trail.now c.args.own.now c.args.more.now c.loop-head.trail c.loop-head.own c.loop-head.more is c.spread.new.trail c.spread.new.self c.spread.ensures.same c.spread.ensures.pairs
    (subst (λ cs. AreInside cs c.spread.new.self.watched) clauses c.spread.ensures.inside)
    (subst (λ cs. IsGrowth cs c.loop-head.trail c.spread.new.trail) clauses c.spread.ensures.growth)
    c.spread.ensures.kept in
    let two = more-spread c.args.problem.now c.args.learned.now c.args.trail.now c.args.own.now c.args.more.now c.spread.new.trail c.spread.new.self c.loop-head.more one c.spread-in-loop-head.new.trail c.spread-in-loop-head.new.self c.spread-in-loop-head.ensures.same c.spread-in-loop-head.ensures.pairs
    c.spread-in-loop-head.ensures.inside
    c.spread-in-loop-head.ensures.growth
    c.spread-in-loop-head.ensures.kept in
    let all = c.args.problem.now.clauses ++ c.args.learned.now in
    going-refuted c.args.problem.now c.args.learned.now c.args.trail.now c.args.own.now c.args.more.now c.spread-in-loop-head.new.trail c.spread.new.self c.spread-in-loop-head.new.self two
    (refuted-part c.args.learned.now all c.spread-in-loop-head.new.trail.literals (λ k m. Contains-append_right c.args.problem.now.clauses c.args.learned.now k m)
    (c.spread-in-loop-head.ensures.refuted c.if-not-spread-2.true))
    false refl

pub loop-head-smaller : goal.loop-head-smaller
loop-head-smaller c =
    let low = c.loop-head-test.true in
    let few = c.len.ensures.most in
    let one = c.spread.ensures.growth.same in
    let two = c.spread-in-loop-head.ensures.growth.same in
    omega arith

pub loop-head-preserved : goal.loop-head-preserved
loop-head-preserved c =
    let is = c.loop-head.invariant.going in
    let clauses = c.clauses.ensures.clauses in
    let one = own-spread c.args.problem.now c.args.learned.now c.args.trail.now c.args.own.now c.args.more.now c.loop-head.trail c.loop-head.own c.loop-head.more is c.spread.new.trail c.spread.new.self c.spread.ensures.same c.spread.ensures.pairs
    (subst (λ cs. AreInside cs c.spread.new.self.watched) clauses c.spread.ensures.inside)
    (subst (λ cs. IsGrowth cs c.loop-head.trail c.spread.new.trail) clauses c.spread.ensures.growth)
    c.spread.ensures.kept in
    let two = more-spread c.args.problem.now c.args.learned.now c.args.trail.now c.args.own.now c.args.more.now c.spread.new.trail c.spread.new.self c.loop-head.more one c.spread-in-loop-head.new.trail c.spread-in-loop-head.new.self c.spread-in-loop-head.ensures.same c.spread-in-loop-head.ensures.pairs
    c.spread-in-loop-head.ensures.inside
    c.spread-in-loop-head.ensures.growth
    c.spread-in-loop-head.ensures.kept in
    let trail : List Lit = c.loop-head.trail.literals in
    let h = c.loop-head.head in
    let p = c.get.result in
    let inside : h < length trail = slice_get_within trail h p c.get.ensures.value in
    let literal : negation c.negated-literal.result ≡ negation (negation p) = ap negation c.negated-literal.ensures in
    let grown = c.spread.ensures.growth in
    let again = c.spread-in-loop-head.ensures.growth in
    let next_one : take (h + 1) c.spread.new.trail.literals ≡ take h trail ++ negation c.negated-literal.result ∷ [] =
    ap (take (h + 1)) grown.grows ∙ take-next trail grown.more h p c.get.ensures.value ∙ ap (λ (x : Lit). take h trail ++ x ∷ []) (sym literal) in
    let longer : length c.spread.new.trail.literals ≡ length trail + length grown.more = ap length grown.grows ∙ length-append trail grown.more in
    let longest : length c.spread-in-loop-head.new.trail.literals ≡ length c.spread.new.trail.literals + length again.more = ap length again.grows ∙ length-append c.spread.new.trail.literals again.more in
    let next_two : take (h + 1) c.spread-in-loop-head.new.trail.literals ≡ take h trail ++ negation c.negated-literal.result ∷ [] =
    ap (take (h + 1)) again.grows ∙ take-append-le (h + 1) c.spread.new.trail.literals again.more (omega arith) ∙ next_one in
    let up = growth-within c.clauses.result.now c.loop-head.trail c.spread.new.trail grown in
    let up_again = growth-within c.args.learned.now c.spread.new.trail c.spread-in-loop-head.new.trail again in
    record {
      within = omega arith;
      going = two;
      own_covered =
          subst (λ done. AreCovered done c.spread-in-loop-head.new.trail.literals c.spread.new.self.watched) (sym next_two)
          (covered-more (take h trail ++ negation c.negated-literal.result ∷ []) c.spread.new.trail.literals c.spread-in-loop-head.new.trail.literals c.spread.new.self.watched up_again
          (next-covered c.clauses.result.now (take h trail) c.loop-head.trail c.spread.new.trail c.loop-head.own.watched c.spread.new.self.watched c.negated-literal.result (take-subset h trail) grown c.spread.ensures.kept
          (c.spread.ensures.seen c.if-not-spread.false) c.loop-head.invariant.own_covered));
      more_covered =
          subst (λ done. AreCovered done c.spread-in-loop-head.new.trail.literals c.spread-in-loop-head.new.self.watched) (sym next_two)
          (next-covered c.args.learned.now (take h trail) c.spread.new.trail c.spread-in-loop-head.new.trail c.loop-head.more.watched c.spread-in-loop-head.new.self.watched c.negated-literal.result
          (λ l m. up l (take-subset h trail l m)) again c.spread-in-loop-head.ensures.kept
          (c.spread-in-loop-head.ensures.seen c.if-not-spread-2.false)
          (covered-more (take h trail) trail c.spread.new.trail.literals c.loop-head.more.watched up c.loop-head.invariant.more_covered));
    }

pub returns-clause-parts : goal.returns-clause-parts
returns-clause-parts c = c.loop-head.invariant.going.parts

pub returns-clause-done : goal.returns-clause-done
returns-clause-done c =
    let trail : List Lit = c.loop-head.trail.literals in
    let whole : take c.loop-head.head trail ≡ trail = take_all c.loop-head.head trail (let end = c.loop-head-test.false in let l = c.len.ensures.value in let w = c.loop-head.invariant.within in omega arith) in
    going-done c.args.problem.now c.args.learned.now c.args.trail.now c.args.own.now c.args.more.now c.loop-head.trail c.loop-head.own c.loop-head.more c.loop-head.invariant.going
    (subst (λ done. AreCovered done trail c.loop-head.own.watched) whole c.loop-head.invariant.own_covered)
    (subst (λ done. AreCovered done trail c.loop-head.more.watched) whole c.loop-head.invariant.more_covered)

pub spread-requires-clause-variable : goal.spread-requires-clause-variable
spread-requires-clause-variable c =
    let var = ap (λ (l : Lit). l.var) c.negated-literal.ensures in
    let low = c.get.ensures.variable in
    let a = c.loop-head.invariant.going.parts.trail_of in
    let b = c.loop-head.invariant.going.parts.own_of in
    omega arith

pub spread-requires-in-loop-head-clause-variable : goal.spread-requires-in-loop-head-clause-variable
spread-requires-in-loop-head-clause-variable c =
    let var = ap (λ (l : Lit). l.var) c.negated-literal.ensures in
    let low = c.get.ensures.variable in
    let a = c.loop-head.invariant.going.parts.trail_of in
    let b = c.loop-head.invariant.going.parts.more_of in
    omega arith
