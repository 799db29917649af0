use Rattle.std.proofs.Common.{◌≤◌, ℕ, List, ap}
use Rattle.req_keys.specs.Key.{PositionSet}
use Rattle.req_keys.proofs.KeyRowLaws.{with-row, with-shown, with-within}
use Rattle.req_keys.proofs.key.Key.with.Goals as goal

pub with_bit-requires : goal.with_bit-requires
with_bit-requires c =
    let number : PositionSet → ℕ = λ key. key.n in
    let high : c.args.i ≤ c.self.inside.n = rw (← ap number c.self.view_is) at c.requires.within in
    rw c.deref.ensures.value (with-within c.self.inside.n c.self.inside.words.items c.self.invariant c.args.i c.requires.counted high)

high_i : (c : goal.In_ok-words) → c.args.i ≤ c.self.inside.n
high_i c =
    let number : PositionSet → ℕ = λ key. key.n in
    rw (← ap number c.self.view_is) at c.requires.within

pub invariant_of-result : goal.invariant_of-result
invariant_of-result c =
    with-row c.self.inside.n c.self.inside.words.items c.self.invariant c.args.i c.requires.counted (high_i c) c.in_ok-words.words.items
    (rw c.deref.ensures.value at c.in_ok-words.ensures)

pub returns : goal.returns
returns c =
    let P : List ℕ → PositionSet = λ t. record { n = c.self.inside.n; members = t } in
    rw (← c.self.view_is)
    (ap P (with-shown c.self.inside.n c.self.inside.words.items c.self.invariant c.args.i c.requires.counted (high_i c) c.in_ok-words.words.items
    (rw c.deref.ensures.value at c.in_ok-words.ensures)))
