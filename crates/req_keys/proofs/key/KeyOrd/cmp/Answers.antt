use Rattle.std.proofs.Common.{◌≡◌, ◌∙◌, ℕ, List, ap, sym, length, subst}
use Rattle.std.specs.declared.cmp.Ordering.{Ordering}
use Rattle.std.specs.declared.cmp.Ordering.TheVariants.{Equal}
use Rattle.std.specs.Ordering.{nat_cmp, ordering_then}
use Rattle.req_keys.specs.inside.Rows.{IsRow, SaysOrder}
use Rattle.req_keys.specs.Key.{PositionSet}
use Rattle.req_keys.specs.Words.{key_of_words}
use Rattle.req_keys.specs.Order.{key_cmp}
use Rattle.req_keys.proofs.OrderLaws.{counts-equal}
use Rattle.req_keys.proofs.KeyRowLaws.{row_order, shown, view_n}
use Rattle.req_keys.proofs.key.KeyOrd.cmp.Goals as goal

-- what the two counts leave open: one n, and as many members
left_open : (a b : PositionSet) (by_n by_count : Ordering) (na nb la lb : ℕ) → na ≡ a.n → nb ≡ b.n → by_n ≡ nat_cmp na nb → by_count ≡ nat_cmp la lb → la ≡ length a.members → lb ≡ length b.members → Equal ≡ ordering_then by_n by_count → (a.n ≡ b.n) × (length a.members ≡ length b.members)
left_open a b by_n by_count na nb la lb e f g h k l o = counts-equal a b (rw (g, h, e, f, k, l) at o)

pub compare-requires : goal.compare-requires
compare-requires c =
    let both = left_open c.args.self.now c.args.other.now c.cmp.result c.cmp-2.result c.self.inside.n c.other.inside.n c.len.result c.len-2.result (view_n _ c.self.inside.words.items _ c.self.view_is) (view_n _ c.other.inside.words.items _ c.other.view_is) c.cmp.ensures c.cmp-2.ensures c.len.ensures c.len-2.ensures c.in-Equal.ensures in
    let one : c.self.inside.n ≡ c.other.inside.n = view_n _ c.self.inside.words.items _ c.self.view_is ∙ both.0 ∙ sym (view_n _ c.other.inside.words.items _ c.other.view_is) in
    rw (c.deref.ensures.value, c.deref-in-Equal.ensures.value) (c.self.invariant.over.0 ∙ rw one (sym c.other.invariant.over.0))

ordered : (a b : PositionSet) (n m : ℕ) (first second one two : List ℕ) (order : Ordering) → key_of_words n first ≡ a → key_of_words m second ≡ b → IsRow n first → IsRow m second → n ≡ m → length a.members ≡ length b.members → one ≡ first → two ≡ second → SaysOrder one two order → order ≡ key_cmp a b
ordered a b n m first second one two order e f is_first is_second same count g h says =
    let is_b : IsRow n second = subst (λ k. IsRow k second) (sym same) is_second in
    let members : PositionSet → List ℕ = λ key. key.members in
    let turn : key_of_words n second ≡ b = ap (λ k. key_of_words k second) same ∙ f in
    let many : length (shown n first) ≡ length (shown n second) = ap length (ap members e) ∙ count ∙ sym (ap length (ap members turn)) in
    row_order n first second is_first is_b many order (rw (g, h) at says) ∙ ap (λ k. key_cmp k (key_of_words n second)) e ∙ ap (key_cmp a) turn

pub returns-in-Equal : goal.returns-in-Equal
returns-in-Equal c =
    let both = left_open c.args.self.now c.args.other.now c.cmp.result c.cmp-2.result c.self.inside.n c.other.inside.n c.len.result c.len-2.result (view_n _ c.self.inside.words.items _ c.self.view_is) (view_n _ c.other.inside.words.items _ c.other.view_is) c.cmp.ensures c.cmp-2.ensures c.len.ensures c.len-2.ensures c.in-Equal.ensures in
    let one : c.self.inside.n ≡ c.other.inside.n = view_n _ c.self.inside.words.items _ c.self.view_is ∙ both.0 ∙ sym (view_n _ c.other.inside.words.items _ c.other.view_is) in
    ordered c.args.self.now c.args.other.now c.self.inside.n c.other.inside.n c.self.inside.words.items c.other.inside.words.items c.deref.result.now c.deref-in-Equal.result.now c.compare.result c.self.view_is c.other.view_is c.self.invariant c.other.invariant one both.1 c.deref.ensures.value c.deref-in-Equal.ensures.value c.compare.ensures
