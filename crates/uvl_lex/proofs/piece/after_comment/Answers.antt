use Rattle.std.proofs.Common.{◌≡◌, ℕ, ◌+◌, ◌==◌, ◌&&◌, false, Some, refl, sym, ◌∙◌, ap, arith}
use Rattle.std.specs.Option.{option_map}
use Rattle.std.proofs.lemmas.Bool.{and_left, and_right, ne_eqb}
use Rattle.uvl_lex.specs.inside.Cursors.{left}
use Rattle.uvl_lex.specs.Pieces.{first, closed_after}
use Rattle.uvl_lex.proofs.CursorLemmas.{goes_then, goes_so, goes_one}
use Rattle.uvl_lex.proofs.ScanLemmas.{closed_here, closed_later, one_further}
use Rattle.uvl_lex.proofs.piece.after_comment.Goals as goal
use Rattle.uvl_lex.proofs.piece.after_comment.Goals.{else-c-eq42-via-then-c-eq42+else-first-eq47, else-c-eq42-via-else-c-eq42}

pub returns-then-first-eq47 : goal.returns-then-first-eq47
returns-then-first-eq47 c =
    let n = c.loop-c.invariant.0 in
    let here = closed_here _ _ _ c.in-Some.ensures.rest c.if-c-eq42.true (sym c.first.ensures ∙ c.if-first-eq47.true) in
    let total : closed_after (left c.args.inside) ≡ Some (n + 2)
    = c.loop-c.invariant.2 ∙ ap (option_map (λ (m : ℕ). n + m)) here in
    rw total (refl, goes_so (goes_then (goes_then c.loop-c.invariant.1 (goes_one c.in-Some.ensures)) c.skip.ensures) (n + 2) (omega arith))

pub loop-c-preserved : goal.loop-c-preserved
loop-c-preserved c =
    let n = c.loop-c.invariant.0 in
    let on : (c.in-Some.c == 42 && first (left c.in-Some.after) == 47) ≡ false = elim c.else-c-eq42.branch [
      | else-c-eq42-via-then-c-eq42+else-first-eq47 w ↦ and_right _ _ (ne_eqb _ _ (λ e. w.if-first-eq47.false (w.first.ensures ∙ e)))
      | else-c-eq42-via-else-c-eq42 w ↦ and_left _ _ (ne_eqb _ _ w.if-c-eq42.false)
    ] in
    let later = closed_later _ _ _ c.in-Some.ensures.rest on in (
      n + 1,
      goes_then c.loop-c.invariant.1 (goes_one c.in-Some.ensures),
      c.loop-c.invariant.2 ∙ (ap (option_map (λ (m : ℕ). n + m)) later ∙ one_further n (closed_after (left c.in-Some.after))),
    )
