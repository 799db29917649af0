use Rattle.std.proofs.Common.{◌≡◌, ◌∙◌, ap, subst, ◌+◌, ◌-◌, ℕ}
use Rattle.std.specs.Prelude.{IfOk}
use Rattle.std.specs.List.{range_with_len}
use Rattle.req_keys.specs.Key.{PositionSet, union_of, difference_of}
use Rattle.req_keys.specs.Wanting.{key_over}
use Rattle.certificate.proofs.KeyLaws.{needed-is}
use Rattle.certificate.proofs.keys.needed_key.Goals as goal

pub returns : goal.returns
returns c =
    let n = c.args.conflict.now.n in
    let p = c.args.member in
    let before : c.in_ok-before.before ≡ key_over n (range_with_len (0 + 1) (p - 1)) = c.in_ok-before.ensures ∙ ap (λ (k : ℕ). key_over k (range_with_len (0 + 1) (p - 1))) c.n-n.ensures.n in
    let up_to : c.in_ok-up_to.up_to ≡ key_over n (range_with_len (0 + 1) p) = c.in_ok-up_to.ensures ∙ ap (λ (k : ℕ). key_over k (range_with_len (0 + 1) p)) c.n-n.ensures.n in
    subst (λ (made : PositionSet). IfOk c.union-2.result (λ key. key ≡ made))
    (ap (λ (b : PositionSet). union_of b c.in_ok-minus.field-0) before
    ∙ ap (union_of (key_over n (range_with_len (0 + 1) (p - 1)))) (c.in_ok-minus.ensures ∙ ap (difference_of c.args.conflict.now) up_to)
    ∙ needed-is n c.args.conflict.now.members p c.requires.counted c.requires.within)
    c.union-2.ensures
