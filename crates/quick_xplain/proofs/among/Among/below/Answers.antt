use Rattle.std.proofs.Common.{◌≡◌, ℕ, ◌<◌, ◌≤◌, ◌+◌, ◌-◌, length, take, refl, sym, ◌∙◌, ap, subst, arith}
use Rattle.std.specs.List.{range_with_len}
use Rattle.std.specs.Prelude.{IfOk, Some, slice_get}
use Rattle.req_keys.specs.Key.{PositionSet, IsKey, difference_of}
use Rattle.req_keys.specs.Wanting.{key_over}
use Rattle.quick_xplain.proofs.Keys.{below_place, place-within}
use Rattle.quick_xplain.proofs.among.Among.below.Goals as goal
use Rattle.quick_xplain.proofs.among.Among.below.Goals.{After-at-before}

-- the member at the place is one of the n positions
within : (c : After-at-before) → (0 < c.at-before.result) × (c.at-before.result ≤ c.n-n.result)
within c =
    let number : PositionSet → ℕ = λ s. s.n in
    let key : IsKey c.args.self.now = subst IsKey c.self.view_is c.n-n.ensures.key in
    let n : c.n-n.result ≡ c.args.self.now.n = c.n-n.ensures.n ∙ ap number c.self.view_is in
    let both = place-within c.args.self.now.n c.args.self.now.members c.args.place c.at-before.result key.1 c.requires c.at-before.ensures in
    (both.0, rw n both.1)

pub overflow_sub-before : goal.overflow_sub-before
overflow_sub-before c = let some : 0 < c.at-before.result = (within c).0 in omega arith

pub overflow_sub-n : goal.overflow_sub-n
overflow_sub-n c = let most : c.at-before.result ≤ c.n-n.result = (within c).1 in omega arith

pub range-requires-clause-within : goal.range-requires-clause-within
range-requires-clause-within c = let most : c.at-before.result ≤ c.n-n.result = (within c).1 in omega arith

pub returns : goal.returns
returns c =
    let x = c.at-before.result in
    let set = c.self.inside.set in
    let l : c.args.place < length c.self.inside.set.members = subst (λ (s : PositionSet). c.args.place < length s.members) (sym c.self.view_is) c.requires in
    let at : slice_get c.self.inside.set.members c.args.place ≡ Some c.at-before.result = subst (λ (s : PositionSet). slice_get s.members c.args.place ≡ Some c.at-before.result) (sym c.self.view_is) c.at-before.ensures in
    let others : c.in_ok-others.others ≡ key_over c.self.inside.set.n (range_with_len ((c.at-before.result - 1) + 1) (c.self.inside.set.n - (c.at-before.result - 1))) =
    c.in_ok-others.ensures ∙ ap (λ n. key_over n (range_with_len ((c.at-before.result - 1) + 1) (n - (c.at-before.result - 1)))) c.n-n.ensures.n in
    let e : difference_of c.self.inside.set c.in_ok-others.others ≡ key_over c.args.self.now.n (take c.args.place c.args.self.now.members) =
    ap (difference_of c.self.inside.set) others
    ∙ below_place c.self.inside.set.n c.self.inside.set c.args.place c.at-before.result refl c.n-n.ensures.key.1 l at
    ∙ ap (λ (s : PositionSet). key_over s.n (take c.args.place s.members)) c.self.view_is in
    subst (λ (k : PositionSet). IfOk c.minus.result (λ key. key ≡ k)) e c.minus.ensures
