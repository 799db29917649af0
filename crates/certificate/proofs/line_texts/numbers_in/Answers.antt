use Rattle.std.proofs.Common.{◌≡◌, ◌+◌, ◌-◌, ◌++◌, [], ◌∷◌, true, false, sym, ◌∙◌, ap}
use Rattle.std.proofs.lemmas.List.{append-nil}
use Rattle.std.proofs.lemmas.Option.{unwrap_or-slice_get}
use Rattle.feature_tree.specs.Truth.{is_in}
use Rattle.certificate.proofs.PieceLaws.{features-push, passing}
use Rattle.certificate.proofs.line_texts.numbers_in.Goals as goal
use Rattle.certificate.proofs.line_texts.numbers_in.Goals.{then-taken+in_ok-push, else-taken}

pub loop-i-preserved : goal.loop-i-preserved
loop-i-preserved c = elim c.if-taken.branch [
  | then-taken+in_ok-push w ↦
      let taken : is_in c.args.set.now c.loop-i.i ≡ true = unwrap_or-slice_get c.args.set.now c.loop-i.i false ∙ w.if-taken.true in
      w.numbers-is ∙ w.in_ok-push.ensures.ok ∙ ap (λ t. t ++ (c.loop-i.i + 1) ∷ []) c.loop-i.invariant ∙ sym (features-push c.args.set.now c.loop-i.i true taken)
  | else-taken w ↦
      let taken : is_in c.args.set.now c.loop-i.i ≡ false = unwrap_or-slice_get c.args.set.now c.loop-i.i false ∙ w.if-taken.false in
      w.numbers-is ∙ c.loop-i.invariant ∙ sym (features-push c.args.set.now c.loop-i.i false taken ∙ append-nil (passing (λ number. is_in c.args.set.now (number - 1)) c.loop-i.i))
]
