use Rattle.std.proofs.Common.{◌≡◌, ◌∙◌, sym, ap, subst, ℕ, ◌≤◌, List, length, take, arith}
use Rattle.std.specs.Prelude.{All}
use Rattle.std.proofs.lemmas.List.{length-take-le}
use Rattle.clauses.specs.declared.literal.Lit.{Lit}
use Rattle.clauses.specs.Problem.{IsBelow}
use Rattle.propagation.specs.inside.Trails.{Trailing}
use Rattle.propagation.specs.inside.Levels.{IsStanding, IsTop, front, last}
use Rattle.propagation.specs.inside.Places.{HasPlace, end_at, start_at}
use Rattle.propagation.proofs.CutLaws.{cut-at, place-cut}
use Rattle.propagation.proofs.levels.learn_at.Goals as goal

pub enter-requires : goal.enter-requires
enter-requires c =
    let problem = c.args.problem.now in
    let learned = c.args.learned.now in
    let trail : Trailing = c.args.trail.now in
    let marks : List ℕ = c.args.marks.now.items in
    let k = c.level_for-level.result.0 in
    let le : k ≤ length marks = (let a = c.level_for-level.ensures.most in let b = c.requires.most in omega arith) in
    let end : c.end_of-end.result ≡ end_at marks (length trail.literals) k =
    c.end_of-end.ensures ∙ ap (λ n. end_at c.deref-2.result.now n k) c.len.ensures.value ∙ ap (λ (ms : List ℕ). end_at ms (length trail.literals) k) c.deref-2.ensures.value in
    let now : c.cut.new.self ≡ record trail { literals = take (end_at marks (length trail.literals) k) trail.literals } = c.cut.ensures ∙ ap (λ n. record trail { literals = take n trail.literals }) end in
    let after : c.deref-3.result.now ≡ take k marks = c.deref-3.ensures.value ∙ c.truncate.ensures.items in
    let both = cut-at problem (front learned) c.args.assumed.now trail c.args.own.now c.args.more.now marks c.args.base c.requires.standing k le
    (λ e. c.requires.top (let a = c.level_for-level.ensures.most in let b = c.requires.most in omega arith)) c.cut.new.self now in
    let place : HasPlace (take (end_at marks (length trail.literals) k) trail.literals) (take (start_at marks k) trail.literals) c.args.clause.now c.level_for-level.result.1 =
    subst (λ (ms : List ℕ). HasPlace (take (end_at ms (length trail.literals) k) trail.literals) (take (start_at ms k) trail.literals) c.args.clause.now c.level_for-level.result.1) c.deref.ensures.value c.level_for-level.ensures.place in
    record {
      standing = subst (λ ms. IsStanding problem (front learned) c.args.assumed.now c.cut.new.self c.args.own.now c.args.more.now ms c.args.base) (sym after) both.0;
      top = subst (λ ms. IsTop problem (front learned) c.args.assumed.now c.cut.new.self c.args.own.now c.args.more.now ms) (sym after) both.1;
      learned = c.requires.learned;
      clause = subst (All (IsBelow problem.variables)) c.requires.clause c.requires.below;
      room = c.requires.room;
      place =
          subst (λ (ms : List ℕ). HasPlace c.cut.new.self.literals (take (start_at ms (length ms)) c.cut.new.self.literals) (last learned) c.level_for-level.result.1) (sym after)
          (subst (λ (t : Trailing). HasPlace t.literals (take (start_at (take k marks) (length (take k marks))) t.literals) (last learned) c.level_for-level.result.1) (sym now)
          (subst (λ (clause : List Lit). HasPlace (take (end_at marks (length trail.literals) k) trail.literals) (take (start_at (take k marks) (length (take k marks))) (take (end_at marks (length trail.literals) k) trail.literals)) clause c.level_for-level.result.1) c.requires.clause
          (place-cut problem (front learned) c.args.assumed.now trail c.args.own.now c.args.more.now marks c.args.base c.requires.standing k le c.args.clause.now c.level_for-level.result.1 place)));
      lowest = (λ f. ap length after ∙ length-take-le k marks le ∙ c.level_for-level.ensures.lowest f);
    }
