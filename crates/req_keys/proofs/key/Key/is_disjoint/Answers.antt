use Rattle.std.proofs.Common.{◌≡◌, ◌*◌, ℕ, List, length}
use Rattle.req_keys.specs.inside.Rows.{IsRow, AreApart}
use Rattle.req_keys.proofs.KeyRowLaws.{same_n, row_over, same_length, disjoint-true, disjoint-from, same_tests}
use Rattle.req_keys.proofs.key.Key.is_disjoint.Goals as goal

pub is_apart-requires : goal.is_apart-requires
is_apart-requires c =
    same_length _ _ c.self.inside.words.items c.other.inside.words.items _ _ c.deref.ensures.value c.deref-2.ensures.value
    (same_n _ _ c.self.inside.words.items c.other.inside.words.items _ _ c.self.view_is c.other.view_is c.requires) c.self.invariant c.other.invariant

pub returns : goal.returns
returns c =
    let n : ℕ = c.self.inside.n in
    let a : List ℕ = c.self.inside.words.items in
    let b : List ℕ = c.other.inside.words.items in
    let one : c.other.inside.n ≡ n = same_n n _ a b _ _ c.self.view_is c.other.view_is c.requires in
    let is_b : IsRow n b = row_over n _ b one c.other.invariant in
    rw (← c.self.view_is, ← c.other.view_is, one)
    (same_tests c.is_apart.result _ (AreApart (64 * length a) a b) (rw (c.deref.ensures.value, c.deref-2.ensures.value) at c.is_apart.ensures) (disjoint-true n a b c.self.invariant is_b) (disjoint-from n a b c.self.invariant is_b))
