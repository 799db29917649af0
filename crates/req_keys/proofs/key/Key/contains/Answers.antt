use Rattle.std.proofs.Common.{◌∙◌, ◌-◌, ◌/◌, ◌%◌, ◌^◌, ℕ, sym, ap, bit_and, arith}
use Rattle.std.specs.Prelude.{◌==◌}
use Rattle.std.proofs.lemmas.Grind.{get_or_default_zero}
use Rattle.req_keys.proofs.WordLaws.{bit_of-test}
use Rattle.req_keys.proofs.KeyRowLaws.{has-shown, has-shown_zero, has-shown_past}
use Rattle.req_keys.proofs.key.Key.contains.Goals as goal
use Rattle.req_keys.proofs.key.Key.contains.Goals.{then-i-eq0-via-then-i-eq0, then-i-eq0-via-else-i-eq0+then-self-i}

pub returns-then-i-eq0 : goal.returns-then-i-eq0
returns-then-i-eq0 c =
    rw (← c.self.view_is)
    (elim c.then-i-eq0.branch [
      | then-i-eq0-via-then-i-eq0 w ↦ sym (has-shown_zero c.self.inside.n c.self.inside.words.items c.args.i w.if-i-eq0.true)
      | then-i-eq0-via-else-i-eq0+then-self-i w ↦ sym (has-shown_past c.self.inside.n c.self.inside.words.items c.args.i w.if-self-i.true)
    ])

pub returns : goal.returns
returns c =
    let words = c.self.inside.words.items in
    let i : ℕ = c.args.i in
    let many = c.self.invariant.over.0 in
    rw (← c.self.view_is)
    (ap (λ word. bit_and (word / 2 ^ ((i - 1) % 64)) 1 == 1) (c.index.ensures ∙ get_or_default_zero words ((i - 1) / 64) _ (omega arith))
    ∙ bit_of-test words (i - 1)
    ∙ sym (has-shown c.self.inside.n words i (omega arith) (omega arith)))
