use Rattle.std.proofs.Common.{◌≡◌, ◌∙◌, sym, ap, subst, ℕ, List, [], ◌∷◌, ◌++◌, length, get_or, true, take, append_assoc, arith}
use Rattle.std.proofs.lemmas.List.{length_push, length-append}
use Rattle.clauses.specs.declared.literal.Lit.{Lit}
use Rattle.clauses.specs.Clause.{has, negation, negative_of}
use Rattle.propagation.specs.inside.Trails.{IsTakenIn, Trailing}
use Rattle.propagation.specs.inside.Levels.{IsClashing, IsStanding, IsTopOrClashing}
use Rattle.propagation.specs.inside.Watching.{AreCovered}
use Rattle.propagation.proofs.LevelLaws.{covered-taken, false-clashes, kept-from, next-either, standing-grown, standing-marked, taken-grows, taken-variables}
use Rattle.propagation.proofs.levels.bring_in.Goals as goal

pub propagate-fits-requires : goal.propagate-fits-requires
propagate-fits-requires c =
    let problem = c.args.problem.now in
    let learned = c.args.learned.now in
    let assumed : List Lit = c.args.assumed.now in
    let trail : Trailing = c.args.trail.now in
    let marks : List ℕ = c.args.marks.now.items in
    let base = c.args.base in
    let is = c.requires.standing in
    let top = c.requires.top in
    let next = c.requires.next in
    let place : c.len.result ≡ length marks = (let l = c.len.ensures in omega arith) in
    let taken : IsTakenIn trail (get_or assumed (length marks) (negative_of 0)) c.take_in.new.self = subst (λ k. IsTakenIn trail (get_or assumed k (negative_of 0)) c.take_in.new.self) place (subst (λ l. IsTakenIn trail l c.take_in.new.self) c.of-literal.ensures c.take_in.ensures) in
    let covered = covered-taken problem learned assumed trail c.args.own.now c.args.more.now marks base is top next c.take_in.new.self taken in
    record {
      parts = record {
        trail_of = taken-variables problem learned assumed trail c.args.own.now c.args.more.now marks base is top next c.take_in.new.self taken ∙ is.parts.trail_of;
        own_of = is.parts.own_of;
        more_of = is.parts.more_of;
        clauses_below = is.parts.clauses_below;
        learned_below = is.parts.learned_below;
        own_inside = is.parts.own_inside;
        more_inside = is.parts.more_inside;
        own_paired = is.parts.own_paired;
        more_plain = is.parts.more_plain;
      };
      start = (let grows = taken-grows problem learned assumed trail c.args.own.now c.args.more.now marks base is top next c.take_in.new.self taken in
          let size = ap length grows.1 in
          let sum = length-append trail.literals grows.0 in
          let l = c.len-start.ensures.value in
          omega arith);
      own_covered = subst (λ n. AreCovered (take n c.take_in.new.self.literals) c.take_in.new.self.literals c.args.own.now.watched) (sym c.len-start.ensures.value) (covered c.args.own.now.watched top.own_covered);
      more_covered = subst (λ n. AreCovered (take n c.take_in.new.self.literals) c.take_in.new.self.literals c.args.more.now.watched) (sym c.len-start.ensures.value) (covered c.args.more.now.watched top.more_covered);
    }

pub returns-then-is_false : goal.returns-then-is_false
returns-then-is_false c =
    let problem = c.args.problem.now in
    let learned = c.args.learned.now in
    let assumed : List Lit = c.args.assumed.now in
    let trail : Trailing = c.args.trail.now in
    let marks : List ℕ = c.args.marks.now.items in
    let base = c.args.base in
    let is = c.requires.standing in
    let top = c.requires.top in
    let next = c.requires.next in
    let place : c.len.result ≡ length marks = (let l = c.len.ensures in omega arith) in
    let marked : c.push_reserved.new.self.items ≡ marks ++ length trail.literals ∷ [] = c.push_reserved.ensures.items ∙ ap (λ n. marks ++ n ∷ []) c.len-start.ensures.value in
    record {
      standing = subst (λ ms. IsStanding problem learned assumed trail c.args.own.now c.args.more.now ms base) (sym marked) (standing-marked problem learned assumed trail c.args.own.now c.args.more.now marks base is top next);
      one_more = ap length marked ∙ length_push marks (length trail.literals);
      top =
          subst (IsClashing problem learned assumed) (sym marked)
          (false-clashes problem learned assumed trail c.args.own.now c.args.more.now marks base is top next
          (subst (λ k. has trail.literals (negation (get_or assumed k (negative_of 0))) ≡ true) place (subst (λ (l : Lit). has trail.literals (negation l) ≡ true) c.of-literal.ensures (sym c.is_false.ensures ∙ c.if-is_false.true))));
      room = c.push_reserved.ensures.capacity;
    }

pub returns : goal.returns
returns c =
    let problem = c.args.problem.now in
    let learned = c.args.learned.now in
    let assumed : List Lit = c.args.assumed.now in
    let trail : Trailing = c.args.trail.now in
    let marks : List ℕ = c.args.marks.now.items in
    let base = c.args.base in
    let is = c.requires.standing in
    let top = c.requires.top in
    let next = c.requires.next in
    let place : c.len.result ≡ length marks = (let l = c.len.ensures in omega arith) in
    let taken : IsTakenIn trail (get_or assumed (length marks) (negative_of 0)) c.take_in.new.self = subst (λ k. IsTakenIn trail (get_or assumed k (negative_of 0)) c.take_in.new.self) place (subst (λ l. IsTakenIn trail l c.take_in.new.self) c.of-literal.ensures c.take_in.ensures) in
    let covered = covered-taken problem learned assumed trail c.args.own.now c.args.more.now marks base is top next c.take_in.new.self taken in
    let marked : c.push_reserved.new.self.items ≡ marks ++ length trail.literals ∷ [] = c.push_reserved.ensures.items ∙ ap (λ n. marks ++ n ∷ []) c.len-start.ensures.value in
    let grows = taken-grows problem learned assumed trail c.args.own.now c.args.more.now marks base is top next c.take_in.new.self taken in
    let done = c.propagate-fits.ensures.done in
    let grown : c.propagate-fits.new.trail.literals ≡ trail.literals ++ (grows.0 ++ done.growth.more) =
    done.growth.grows ∙ ap (λ ls. ls ++ done.growth.more) grows.1 ∙ append_assoc trail.literals grows.0 done.growth.more in
    let from = kept-from problem learned assumed trail c.args.own.now c.args.more.now marks base is top next c.take_in.new.self taken c.propagate-fits.new.trail c.propagate-fits.new.own c.propagate-fits.new.more c.propagate-fits.result done in
    let stands = standing-marked problem learned assumed trail c.args.own.now c.args.more.now marks base is top next in
    record {
      standing =
          subst (λ ms. IsStanding problem learned assumed c.propagate-fits.new.trail c.propagate-fits.new.own c.propagate-fits.new.more ms base) (sym marked)
          (standing-grown problem learned assumed trail c.propagate-fits.new.trail c.args.own.now c.propagate-fits.new.own c.args.more.now c.propagate-fits.new.more (marks ++ length trail.literals ∷ []) base stands
          (grows.0 ++ done.growth.more) grown c.propagate-fits.ensures.parts c.len-2.ensures.one_signed (from c.args.own.now.watched c.propagate-fits.new.own.watched done.own_kept) (from c.args.more.now.watched c.propagate-fits.new.more.watched done.more_kept));
      one_more = ap length marked ∙ length_push marks (length trail.literals);
      top =
          subst (λ ms. IsTopOrClashing problem learned assumed c.propagate-fits.new.trail c.propagate-fits.new.own c.propagate-fits.new.more ms c.propagate-fits.result) (sym marked)
          (next-either problem learned assumed trail c.args.own.now c.args.more.now marks base is top next c.take_in.new.self taken c.propagate-fits.new.trail c.propagate-fits.new.own c.propagate-fits.new.more c.propagate-fits.result done);
      room = c.push_reserved.ensures.capacity;
    }
