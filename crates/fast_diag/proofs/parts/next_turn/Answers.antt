use Rattle.std.specs.Prelude.{◌==◌}
use Rattle.std.proofs.Common.{◌≡◌, ◌<◌, ◌-◌, ◌++◌, ◌∷◌, [], length, sym, ◌∙◌, ap, ⊎_elim, arith}
use Rattle.std.proofs.lemmas.Bool.{eq-eqb, eqb-true, eqb-false}
use Rattle.fast_diag.specs.inside.Remaining.{with_waiting}
use Rattle.fast_diag.proofs.WaitingHalves.{parted, taken, IsTaken, waiting-last, waiting-skip}
use Rattle.fast_diag.proofs.parts.next_turn.Goals as goal

pub returns-then-not-known : goal.returns-then-not-known
returns-then-not-known c =
    let some : length c.loop-halves.halves ≡ 0 → ⊥ = eqb-false (length c.loop-halves.halves) 0 (sym c.is_empty.ensures ∙ c.loop-halves-test.true) in
    let e : c.loop-halves.halves ≡ c.truncate.new.self ++ c.get-half.result.now ∷ [] = parted (c.len-last.result - 1) c.loop-halves.halves c.truncate.new.self c.get-half.result.now (omega (arith, some)) c.truncate.ensures c.get-half.ensures in
    let t : IsTaken c.args.kept.now.n c.args.at c.args.kept.now c.get-half.result.now c.truncate.new.self = taken c.args.kept.now.n c.args.at c.args.kept.now c.loop-halves.halves c.truncate.new.self c.get-half.result.now e c.loop-halves.invariant.place in (
      c.loop-halves.invariant.same ∙ waiting-last c.args.kept.now.members c.loop-halves.halves c.truncate.new.self c.get-half.result.now e
          ∙ ap (λ m. with_waiting c.args.kept.now.members c.get-half.result.now.before c.get-half.result.now.length (m == c.get-half.result.now.whole) c.truncate.new.self) (sym c.len.ensures),
      t.some,
      (λ yes. ⊎_elim (λ (no : c.len.result ≡ c.get-half.result.now.whole → ⊥). absurd (no (eqb-true c.len.result c.get-half.result.now.whole yes))) (λ (more : (c.len.result ≡ c.get-half.result.now.whole) × (1 < c.get-half.result.now.length)). let one : 1 < c.get-half.result.now.length = more.1 in omega arith) c.then-not-known.either),
      t.above,
      t.behind,
    )

pub loop-halves-preserved : goal.loop-halves-preserved
loop-halves-preserved c =
    let some : length c.loop-halves.halves ≡ 0 → ⊥ = eqb-false (length c.loop-halves.halves) 0 (sym c.is_empty.ensures ∙ c.loop-halves-test.true) in
    let e : c.loop-halves.halves ≡ c.truncate.new.self ++ c.get-half.result.now ∷ [] = parted (c.len-last.result - 1) c.loop-halves.halves c.truncate.new.self c.get-half.result.now (omega (arith, some)) c.truncate.ensures c.get-half.ensures in
    let t : IsTaken c.args.kept.now.n c.args.at c.args.kept.now c.get-half.result.now c.truncate.new.self = taken c.args.kept.now.n c.args.at c.args.kept.now c.loop-halves.halves c.truncate.new.self c.get-half.result.now e c.loop-halves.invariant.place in
    let some_left : 0 < c.get-half.result.now.length = t.some in
    let one : c.get-half.result.now.length ≡ 1 = omega arith in
    record {
      same =
          c.loop-halves.invariant.same ∙ waiting-last c.args.kept.now.members c.loop-halves.halves c.truncate.new.self c.get-half.result.now e
          ∙ ap (λ m. with_waiting c.args.kept.now.members c.get-half.result.now.before c.get-half.result.now.length (m == c.get-half.result.now.whole) c.truncate.new.self) (sym c.len.ensures)
          ∙ ap (λ k. with_waiting c.args.kept.now.members c.get-half.result.now.before c.get-half.result.now.length k c.truncate.new.self) (eq-eqb c.len.result c.get-half.result.now.whole c.if-not-known.false)
          ∙ waiting-skip c.args.kept.now.members c.get-half.result.now.before c.get-half.result.now.length c.truncate.new.self one;
      place = t.still;
    }
