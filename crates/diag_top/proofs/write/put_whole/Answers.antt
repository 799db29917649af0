use Rattle.std.proofs.Common.{◌≡◌, ◌-◌, ◌+◌, ℕ, List, length, take, drop, arith, subst, ap, ◌∙◌}
use Rattle.std.proofs.lemmas.List.{drop-drop}
use Rattle.std.proofs.lemmas.Result.{err_from_is_err_and}
use Rattle.diag_base.specs.Sink.{Gains, GainsPart}
use Rattle.diag_top.proofs.Puts.{gains_on, gains_part}
use Rattle.diag_top.proofs.write.put_whole.Goals as goal

pub returns-in_err-put-clause-err : goal.returns-in_err-put-clause-err
returns-in_err-put-clause-err g c =
    let p = err_from_is_err_and c.from_residual.result c.from_residual.ensures.1 in
    let written = g.K.Sink.written in
    let before = written c.pieces.sink in
    let after = written c.put.new.self in
    let size = c.min.result in
    let part : GainsPart (take size c.pieces.rest.now) before after =
    subst (λ (front : List ℕ). GainsPart front before after) c.split_at.ensures.front c.in_err-put.ensures.err in
    rw (p.1)
    (gains_part c.args.text.now c.pieces.rest.now (length c.args.text.now - length c.pieces.rest.now) size (written c.args.sink.now) before after
    (omega arith) c.pieces.invariant.left (omega (arith, c.min.ensures)) c.pieces.invariant.put part)

pub pieces-preserved : goal.pieces-preserved
pieces-preserved g c =
    let written = g.K.Sink.written in
    let before = written c.pieces.sink in
    let after = written c.put.new.self in
    let text = c.args.text.now in
    let rest = c.pieces.rest.now in
    let size = c.min.result in
    let done = length text - length rest in
    let piece : Gains (take size rest) before after =
    subst (λ (front : List ℕ). Gains front before after) c.split_at.ensures.front c.in_ok-put.ensures.ok in
    let next : length text - length c.split_at.result.1.now ≡ done + size = omega (arith, c.split_at.ensures.back_len, c.min.ensures) in
    record {
      fits = omega (arith, c.split_at.ensures.back_len);
      left = rw next (c.split_at.ensures.back ∙ ap (drop size) c.pieces.invariant.left ∙ drop-drop size done text);
      put = rw next (gains_on text rest done size (written c.args.sink.now) before after c.pieces.invariant.left c.pieces.invariant.put piece);
      grown = omega (arith, c.in_ok-put.ensures.never_falls);
    }
