use Rattle.std.proofs.Common.{◌≡◌, ◌∙◌, ◌*◌, ℕ, List, true, ap, sym, length, subst, rules}
use Rattle.req_keys.specs.inside.Rows.{IsRow, AreSame}
use Rattle.req_keys.specs.Key.{PositionSet}
use Rattle.req_keys.specs.KeyEq.{key_eq-same}
use Rattle.req_keys.specs.Order.{key_eq}
use Rattle.req_keys.specs.Words.{key_of_words}
use Rattle.req_keys.proofs.KeyRowLaws.{same-members, same-from_members, same_tests}
use Rattle.req_keys.proofs.key.KeyPartialEq.eq.Goals as goal

pub is_same-requires : goal.is_same-requires
is_same-requires c =
    rw (c.deref.ensures.value, c.deref-then-self-other.ensures.value) (c.self.invariant.over.0 ∙ rw c.if-self-other.true (sym c.other.invariant.over.0))

key_eq-refl : (a : PositionSet) → key_eq a a ≡ true
key_eq-refl a = search rules

pub returns-then-self-other : goal.returns-then-self-other
returns-then-self-other c =
    let n : ℕ = c.self.inside.n in
    let a : List ℕ = c.self.inside.words.items in
    let b : List ℕ = c.other.inside.words.items in
    let is_b : IsRow n b = subst (λ m. IsRow m b) (sym c.if-self-other.true) c.other.invariant in
    let P : List ℕ → PositionSet = λ t. record { n = n; members = t } in
    let members : PositionSet → List ℕ = λ key. key.members in
    rw (← c.self.view_is, ← c.other.view_is, ← c.if-self-other.true)
    (same_tests c.is_same.result (key_eq (key_of_words n a) (key_of_words n b)) (AreSame (64 * length a) a b)
    (rw (c.deref.ensures.value, c.deref-then-self-other.ensures.value) at c.is_same.ensures)
    (λ h. let one : key_of_words n a ≡ key_of_words n b = ap P (same-members n a b c.self.invariant is_b h) in ap (key_eq (key_of_words n a)) (sym one) ∙ key_eq-refl (key_of_words n a))
    (λ e. same-from_members n a b c.self.invariant is_b (ap members (key_eq-same (key_of_words n a) (key_of_words n b) e))))
