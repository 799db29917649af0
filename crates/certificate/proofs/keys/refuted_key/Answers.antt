use Rattle.std.proofs.Common.{◌≡◌, ◌∙◌, ap, subst, ◌+◌, ◌-◌, ℕ}
use Rattle.std.specs.Prelude.{IfOk}
use Rattle.std.specs.List.{range_with_len}
use Rattle.req_keys.specs.Key.{PositionSet, key_with, difference_of}
use Rattle.req_keys.specs.Wanting.{key_over}
use Rattle.certificate.proofs.KeyLaws.{refuted-is}
use Rattle.certificate.proofs.keys.refuted_key.Goals as goal

pub returns : goal.returns
returns c =
    let n = c.args.kept.now.n in
    let p = c.args.position in
    let behind : c.in_ok-behind.behind ≡ key_over n (range_with_len ((p - 1) + 1) (n - (p - 1))) =
    c.in_ok-behind.ensures ∙ ap (λ (k : ℕ). key_over k (range_with_len ((p - 1) + 1) (k - (p - 1)))) c.n-n.ensures.n in
    subst (λ (made : PositionSet). IfOk c.with-2.result (λ key. key ≡ made))
    (ap (λ (k : PositionSet). key_with k p) (c.in_ok-minus.ensures ∙ ap (difference_of c.args.kept.now) behind)
    ∙ refuted-is n c.args.kept.now.members p c.requires.counted c.requires.within)
    c.with-2.ensures
