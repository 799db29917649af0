use Rattle.std.proofs.Common.{◌≡◌, ◌∙◌, sym, ap, ◌∷◌, ◌+◌, ◌-◌, ◌<◌, ◌++◌, List, ℕ, Bool, true, false, not, arith}
use Rattle.std.specs.Prelude.{filter}
use Rattle.std.specs.List.{flat_map, range_with_len}
use Rattle.req_keys.specs.Positions.{has}
use Rattle.certificate.specs.Judging.{refuted_parts}
use Rattle.certificate.specs.Sets.{given_up}
use Rattle.certificate.specs.inside.Ahead.{judged_at}
use Rattle.certificate.proofs.PassingLaws.{passes-left, passes-fail, filter-here, filter-skip}
use Rattle.derivation_check.specs.Lines.{Lines}
use Rattle.certificate.proofs.explained.all_refuted.Goals as goal
use Rattle.certificate.proofs.explained.all_refuted.Goals.{then-not-contains+in_ok-refuted, else-not-contains}

abbrev given : List ℕ → ℕ → Bool
given kept i = not (has kept i)

pub returns-in_err-refuted-clause-passes : goal.returns-in_err-refuted-clause-passes
returns-in_err-refuted-clause-passes c = λ about same count.
    let kept = c.args.kept.now.members in
    let n = c.args.kept.now.n in
    let place = c.loop-place.place in
    let inside : place < n = omega (arith, c.n-place-end.ensures.n, c.loop-place-test.true) in
    let here : given kept (place + 1) ≡ true = ap not (sym c.contains.ensures ∙ c.if-not-contains.true) in
    let more = filter (given kept) (range_with_len ((place + 1) + 1) (n - (place + 1))) in
    passes-left about (flat_map (refuted_parts about kept) (given_up n kept)) (flat_map (refuted_parts about kept) ((place + 1) ∷ more)) c.args.lines.now c.loop-place.lines c.refuted.new.lines c.from_residual.result
    (λ rest. c.loop-place.invariant.so_far about same count rest ∙ ap (λ (left : List ℕ). judged_at about (flat_map (refuted_parts about kept) left ++ rest) c.loop-place.lines) (filter-here (given kept) n place inside here))
    (passes-fail (Unit {0}) about (refuted_parts about kept (place + 1)) (flat_map (refuted_parts about kept) more) c.loop-place.lines c.refuted.new.lines c.refuted.new.lines c.from_residual.result
    c.in_err-refuted.field-0.0 c.from_residual.ensures.1 (c.in_err-refuted.ensures.passes about (same ∙ sym c.loop-place.invariant.problem) count))

pub loop-place-preserved : goal.loop-place-preserved
loop-place-preserved c =
    let kept = c.args.kept.now.members in
    let n = c.args.kept.now.n in
    let place = c.loop-place.place in
    let inside : place < n = omega (arith, c.n-place-end.ensures.n, c.loop-place-test.true) in
    let more = filter (given kept) (range_with_len ((place + 1) + 1) (n - (place + 1))) in
    elim c.if-not-contains.branch [
      | then-not-contains+in_ok-refuted w ↦
          let here : given kept (place + 1) ≡ true = ap not (sym c.contains.ensures ∙ w.if-not-contains.true) in
          record {
            problem = ap (λ (x : Lines). x.problem) w.checker-is ∙ w.in_ok-refuted.ensures.problem ∙ c.loop-place.invariant.problem;
            so_far = (λ about same count rest.
                c.loop-place.invariant.so_far about same count rest
                ∙ ap (λ (left : List ℕ). judged_at about (flat_map (refuted_parts about kept) left ++ rest) c.loop-place.lines) (filter-here (given kept) n place inside here)
                ∙ w.in_ok-refuted.ensures.passes about (same ∙ sym c.loop-place.invariant.problem) count (flat_map (refuted_parts about kept) more ++ rest)
                ∙ ap (judged_at about (flat_map (refuted_parts about kept) more ++ rest)) (sym w.lines-is));
          }
      | else-not-contains w ↦
          let skip : given kept (place + 1) ≡ false = ap not (sym c.contains.ensures ∙ w.if-not-contains.false) in
          record {
            problem = ap (λ (x : Lines). x.problem) w.checker-is ∙ c.loop-place.invariant.problem;
            so_far = (λ about same count rest.
                c.loop-place.invariant.so_far about same count rest
                ∙ ap (λ (left : List ℕ). judged_at about (flat_map (refuted_parts about kept) left ++ rest) c.loop-place.lines) (filter-skip (given kept) n place inside skip)
                ∙ ap (judged_at about (flat_map (refuted_parts about kept) more ++ rest)) (sym w.lines-is));
          }
    ]
